-- `entry_in`: each field is read at its place, and the flags as those of a page-table entry.
use Rattle.std.proofs.Common.{rules}
use Rattle.bits.proofs.Flags.{test_bit}
use Rattle.entry_image.specs.EntryImage.{entry_read}
use Rattle.entry_image.proofs.entry_in.Goals as goal

pub returns : goal.returns
unfolding entry_read
returns c = rw (test_bit 0) (search rules)
