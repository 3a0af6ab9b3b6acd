-- `mmu_in`: each field is read at its place, and each switch by its mask.
use Rattle.std.proofs.Common.{rules}
use Rattle.bits.proofs.Flags.{test_bit}
use Rattle.image_read.specs.Reading.{state_at}
use Rattle.image_read.proofs.mmu_in.Goals as goal

pub returns : goal.returns
unfolding state_at
returns c = rw (test_bit 0, test_bit 1, test_bit 2) (search rules)
