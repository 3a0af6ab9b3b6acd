use Rattle.bits.proofs.Flags.{test_bit}
use Rattle.pte.proofs.Pte.perms.Goals as goal

pub returns : goal.returns
returns c = simp (test_bit 1, test_bit 2, test_bit 3, test_bit 4)
