-- What a good image says of its length.
use Prim.Native.Nat.{ℕ, ◌≤◌}
use native.Mathlib.Omega.{arith}
use mathlib.Core.Path.{◌≡◌}
use mathlib.Core.Bool.{true, and-eq-true_iff}
use mathlib.Core.List.{List}
use lib.Dec.{eqb}
use lib.ListN.{length}
use borrow.Author.Tests.{eqb-true}
use Rattle.image_read.specs.Reading.{good_image}

pub good_length : (s : List ℕ) → good_image s ≡ true → 3416 ≤ length s
unfolding good_image
good_length s e = omega (arith, eqb-true (length s) 3416 ((and-eq-true_iff (eqb (length s) 3416) _).0 e).0)
