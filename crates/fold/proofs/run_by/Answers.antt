-- `fold::run_by` meets its contract (`Rest`).
use native.Mathlib.Omega.{arith}
use borrow.Author.Rules.{rules}
use Rattle.steps.proofs.Rest.{next, ended}
use Rattle.fold.proofs.run_by.Goals as goal

pub loop-k-preserved : goal.loop-k-preserved
loop-k-preserved g c =
    let done = rw c.event_at-e.ensures at c.step-n.ensures in
    next c.loop-k.invariant c.loop-k-test.true _ (omega arith) done.0 done.1 (search rules)

pub returns : goal.returns
returns g c = ended c.loop-k.invariant (omega arith)
