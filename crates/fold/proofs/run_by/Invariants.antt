-- `fold::run_by` meets its contract (`Rest`).
use Rattle.steps.proofs.Rest.{Rest}
use Rattle.fold.proofs.run_by.Given as goal

abbrev pub invariant-loop-k : goal.invariant-loop-k
invariant-loop-k g l = Rest l.records 0 l.count l.initial.n l.initial.ram l.ram l.n l.k
