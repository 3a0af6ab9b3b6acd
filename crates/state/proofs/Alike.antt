-- Comparing two lists of classes: by slices, and what the comparison says.
use Prim.Native.Nat.{ℕ}
use native.Mathlib.Omega.{arith}
use mathlib.Core.Path.{◌≡◌, refl, ap, ap₂}
use mathlib.Core.Bool.{Bool, true, ◌&&◌, and-eq-true_iff}
use mathlib.Core.List.{List, [], ◌∷◌}
use lib.Dec.{eqb}
use lib.Pointwise.{pointwise}
use borrow.Author.Tests.{eqb-true}
use Rattle.state.specs.State.{alike}

-- the slices' own comparison
pub alike_is : (xs ys : List ℕ) → pointwise eqb xs ys ≡ alike xs ys
unfolding alike
alike_is [] [] = refl
alike_is [] (y ∷ ys) = refl
alike_is (x ∷ xs) [] = refl
alike_is (x ∷ xs) (y ∷ ys) = ap (λ (b : Bool). eqb x y && b) (alike_is xs ys)

-- lists that are alike are equal
pub alike_same : (xs ys : List ℕ) → alike xs ys ≡ true → xs ≡ ys
unfolding alike
alike_same [] [] e = refl
alike_same [] (y ∷ ys) e = let z : ◌≡◌ {A = ℕ} 0 1 = cc in absurd (omega arith)
alike_same (x ∷ xs) [] e = let z : ◌≡◌ {A = ℕ} 0 1 = cc in absurd (omega arith)
alike_same (x ∷ xs) (y ∷ ys) e =
    let both = (and-eq-true_iff (eqb x y) (alike xs ys)).0 e in
    ap₂ ◌∷◌ (eqb-true x y both.0) (alike_same xs ys both.1)
