use Rattle.bits.proofs.Flags.{test_bit}
use Rattle.pte.proofs.Pte.dirty.Goals as goal

pub returns : goal.returns
returns c = test_bit 7 c.args.self.raw
