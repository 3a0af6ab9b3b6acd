-- `leaf_word`: a frame that is cut down is no larger than what it was cut from, so nothing wraps.
use native.Mathlib.Omega.{arith}
use native.Mathlib.Nat.{div-mul-le_self}
use Prim.Native.Nat.{◌+◌, ◌*◌, ◌/◌, ◌%◌, ◌≤◌}
use Rattle.plan.specs.Levels.{leaf_at}
use Rattle.plan.proofs.leaf_word.Goals.{After-span_at-span}
use Rattle.plan.proofs.leaf_word.Goals as goal

cut : (c : After-span_at-span) → (c.args.base + c.args.p.delta) % 4294967296 / c.span_at-span.result * c.span_at-span.result ≤ (c.args.base + c.args.p.delta) % 4294967296
cut c = div-mul-le_self _ _

pub overflow_mul-frame : goal.overflow_mul-frame
overflow_mul-frame c = omega (arith, cut (goal.at.overflow_mul-frame c).After-span_at-span)

pub overflow_cast-ppn : goal.overflow_cast-ppn
overflow_cast-ppn c = omega (arith, cut (goal.at.overflow_cast-ppn c).After-span_at-span)

pub overflow_mul-result : goal.overflow_mul-result
overflow_mul-result c = omega (arith, cut (goal.at.overflow_mul-result c).After-span_at-span)

pub overflow_add-result : goal.overflow_add-result
overflow_add-result c = omega (arith, cut (goal.at.overflow_add-result c).After-span_at-span, c.requires.0.flags6)

pub returns : goal.returns
unfolding leaf_at
returns c = simp c.span_at-span.ensures.0
