-- Decimal digits: the last one apart, and how many there are.
use mathlib.Core.Path.{◌≡◌, refl, ap, ◌∙◌}
use mathlib.Core.Bool.{Bool, true, false}
use mathlib.Core.List.{List, [], ◌∷◌, ◌++◌}
use Prim.Native.Nat.{ℕ, zero, suc, ◌+◌, ◌/◌, ◌%◌, ◌^◌, ◌<◌, ◌≤◌}
use native.Mathlib.Nat.{pow-suc, div-lt_iff_lt-mul, not-suc-le-zero}
use native.Mathlib.Omega.{arith}
use lib.Dec.{ltb}
use lib.ListN.{length, length-append}
use borrow.Author.Tests.{lt-ltb, le-ltb, ltb-true, ltb-false}
use Rattle.writer.specs.Digits.{glyph, decimal_in, decimal_of}

-- once there are enough turns, more change nothing
enough : (t u n : ℕ) (small : Bool) → ltb n 10 ≡ small → n ≤ t → n ≤ u → decimal_in t small n ≡ decimal_in u small n
unfolding decimal_in
enough zero zero n small e h g = refl
enough zero (suc u) n true e h g = refl
enough zero (suc u) n false e h g = absurd (omega (arith, ltb-false n 10 e))
enough (suc t) zero n true e h g = refl
enough (suc t) zero n false e h g = absurd (omega (arith, ltb-false n 10 e))
enough (suc t) (suc u) n true e h g = refl
enough (suc t) (suc u) n false e h g =
    let l : 10 ≤ n = ltb-false n 10 e in
    ap (λ (d : List ℕ). d ++ (glyph (n % 10) ∷ [])) (enough t u (n / 10) (ltb (n / 10) 10) refl (omega arith) (omega arith))

pub decimal_one : (n : ℕ) → n < 10 → decimal_of n ≡ glyph n ∷ []
unfolding decimal_in
decimal_one n h = ap (λ (small : Bool). decimal_in n small n) (lt-ltb n 10 h) ∙ go n
  where
    go : (t : ℕ) → decimal_in t true n ≡ glyph n ∷ []
    go zero = refl
    go (suc t) = refl

pub decimal_more : (n : ℕ) → 10 ≤ n → decimal_of n ≡ decimal_of (n / 10) ++ (glyph (n % 10) ∷ [])
unfolding decimal_in
decimal_more zero h = absurd (not-suc-le-zero h)
decimal_more (suc m) h =
    rw (le-ltb (suc m) 10 h)
    (ap (λ (d : List ℕ). d ++ (glyph (suc m % 10) ∷ []))
    (enough m (suc m / 10) (suc m / 10) (ltb (suc m / 10) 10) refl (omega arith) (omega arith)))

pub length_one : (n : ℕ) → n < 10 → length (decimal_of n) ≡ 1
length_one n h = ap length (decimal_one n h)

pub length_more : (n : ℕ) → 10 ≤ n → length (decimal_of n) ≡ length (decimal_of (n / 10)) + 1
length_more n h = ap length (decimal_more n h) ∙ length-append (decimal_of (n / 10)) (glyph (n % 10) ∷ [])

-- a number below 10 ^ (k + 1) has at most k + 1 digits
few : (k n : ℕ) → n < 10 ^ suc k → length (decimal_of n) ≤ suc k
few zero n h = omega (arith, length_one n h)
few (suc k) n h = go (ltb n 10) refl (few k (n / 10))
  where
    go : (small : Bool) → ltb n 10 ≡ small → (n / 10 < 10 ^ suc k → length (decimal_of (n / 10)) ≤ suc k) → length (decimal_of n) ≤ suc (suc k)
    go true e again = omega (arith, length_one n (ltb-true n 10 e))
    go false e again =
        omega (arith, length_more n (ltb-false n 10 e), again ((div-lt_iff_lt-mul (omega arith)).1 (rw pow-suc at h)))

pub three : (n : ℕ) → n < 1000 → length (decimal_of n) ≤ 3
three n h = few 2 n h

pub twenty : (n : ℕ) → n < 2 ^ 64 → length (decimal_of n) ≤ 20
twenty n h = few 19 n (omega arith)

pub two : (n : ℕ) → n < 100 → length (decimal_of n) ≤ 2
two n h = few 1 n h
