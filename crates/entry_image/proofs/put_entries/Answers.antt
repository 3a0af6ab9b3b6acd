-- `put_entries`: the entries put and those that are left are all (`Entries`).
use Rattle.std.proofs.Common.{◌≡◌, length, arith, rules}
use Rattle.writer.proofs.Going as Going
use Rattle.entry_image.proofs.Entries.{next_entry, no_entry}
use Rattle.entry_image.proofs.put_entries.Goals as goal

pub loop-e-preserved : goal.loop-e-preserved
loop-e-preserved c =
    let l = c.loop-e in
    let long : length c.args.es ≡ 128 = search rules in
    Going.within (omega arith) (Going.then (Going.as_rest (next_entry c.args.es l.e-index (omega (arith, long))) l.invariant) c.put_entry.ensures)

pub returns : goal.returns
returns c =
    let l = c.loop-e in
    let long : length c.args.es ≡ 128 = search rules in
    Going.ended (Going.within (omega arith) (Going.as_rest (no_entry c.args.es l.e-index (omega (arith, long))) l.invariant))
