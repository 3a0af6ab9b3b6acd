-- `steps::run_records` meets its contract (`Half`).
use Rattle.steps.proofs.Half.{Half}
use Rattle.steps.proofs.run_records.Given as goal

abbrev pub invariant-loop-k : goal.invariant-loop-k
invariant-loop-k l = Half l.file l.first l.count l.initial.n l.initial.ram l.ram l.initial.out l.out l.n l.k
