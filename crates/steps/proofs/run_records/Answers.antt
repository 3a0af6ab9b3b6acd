-- `steps::run_records` meets its contract (`Half`).
use native.Mathlib.Omega.{arith}
use borrow.Author.Rules.{rules}
use Rattle.steps.proofs.Half.{next, ended}
use Rattle.steps.proofs.run_records.Goals as goal

pub loop-k-preserved : goal.loop-k-preserved
loop-k-preserved c =
    let done = rw c.event_at-e.ensures at c.step-n.ensures in
    next c.loop-k.invariant c.loop-k-test.true done.0 done.1 (search rules) done.2

pub returns : goal.returns
returns c = ended c.loop-k.invariant (omega arith)
