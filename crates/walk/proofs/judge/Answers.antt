-- `judge`: a stop is the fault itself, a leaf is judged.
use Rattle.std.proofs.lemmas.Grind.{common_steps}
use native.Mathlib.Omega.{arith}
use Rattle.walk.specs.Verdict.{judge_of}
use Rattle.walk.proofs.judge.Goals as goal

pub returns-in_err-leaf : goal.returns-in_err-leaf
unfolding judge_of
returns-in_err-leaf c = grind (arith, common_steps)

pub returns : goal.returns
unfolding judge_of
returns c = grind (arith, common_steps)
