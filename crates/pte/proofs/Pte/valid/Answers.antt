use Rattle.bits.proofs.Flags.{test_bit}
use Rattle.pte.proofs.Pte.valid.Goals as goal

pub returns : goal.returns
returns c = test_bit 0 c.args.self.raw
