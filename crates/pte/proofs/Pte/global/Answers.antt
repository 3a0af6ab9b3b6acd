use Rattle.bits.proofs.Flags.{test_bit}
use Rattle.pte.proofs.Pte.global.Goals as goal

pub returns : goal.returns
returns c = test_bit 5 c.args.self.raw
