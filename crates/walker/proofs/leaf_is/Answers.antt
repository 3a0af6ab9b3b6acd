-- `leaf_is`: the test of alignment is that of `leaf_is`.
use Prim.Native.Nat.{ℕ, ◌-◌, ◌%◌, ◌^◌}
use mathlib.Core.Path.{◌≡◌, ◌∙◌, ap}
use mathlib.Core.Bool.{Bool, not}
use lib.Dec.{eqb}
use Rattle.pte.specs.Entry.{ppn_of}
use Rattle.walker.proofs.Cases.{said, misaligned, leaf}
use Rattle.walker.proofs.leaf_is.Goals.{After-is_aligned}
use Rattle.walker.proofs.leaf_is.Goals as goal

abbrev aligned : ℕ → ℕ → Bool
aligned shift n = not (eqb (n % 2 ^ (shift - 12)) 0)

-- what the answer says of the word
align_said : (c : After-is_aligned) → not c.is_aligned.result ≡ aligned c.args.shift (ppn_of c.args.pte.raw)
align_said c = ap not c.is_aligned.ensures ∙ ap (aligned c.args.shift) c.ppn.ensures

pub returns-then-not-is_aligned : goal.returns-then-not-is_aligned
returns-then-not-is_aligned c = misaligned _ _ _ (said (align_said (goal.at.returns-then-not-is_aligned c).After-is_aligned) c.if-not-is_aligned.true-raw)

pub returns : goal.returns
returns c = leaf _ _ _ (said (align_said (goal.at.returns c).After-is_aligned) c.if-not-is_aligned.false-raw)
