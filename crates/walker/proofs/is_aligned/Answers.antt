use Prim.Native.Nat.{ℕ}
use mathlib.Core.Path.{ap}
use lib.Dec.{eqb}
use Rattle.walker.proofs.is_aligned.Goals as goal

pub returns : goal.returns
returns c = ap (λ (n : ℕ). eqb n 0) c.low_bits.ensures.0
