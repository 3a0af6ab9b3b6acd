use Rattle.bits.proofs.Flags.{test_bit}
use Rattle.pte.proofs.Pte.accessed.Goals as goal

pub returns : goal.returns
returns c = test_bit 6 c.args.self.raw
