-- `put_entries`: the entries put and those that are left are all (`Entries`).
use Rattle.std.proofs.Common.{◌*◌, drop}
use Rattle.writer.proofs.Going as Going
use Rattle.entry_image.specs.EntryImage.{entries_image}
use Rattle.entry_image.proofs.put_entries.Given as goal

abbrev pub invariant-loop-e : goal.invariant-loop-e
invariant-loop-e l = Going.Going (25 * l.e-index) l.initial.out l.out (entries_image (drop l.e-index l.e-items)) (entries_image l.e-items)
