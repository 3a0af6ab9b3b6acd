-- `steps::run_all` meets its contract: the lines, and after them the tallies.
use Rattle.writer.proofs.Wrotes.{then}
use Rattle.steps.proofs.run_all.Goals as goal

pub returns : goal.returns
returns c =
    let r = c.run_records-end.ensures in
    (r.0, r.1, then r.2 (rw r.0 at c.put_tallies.ensures))
