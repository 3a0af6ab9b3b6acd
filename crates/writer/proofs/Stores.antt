-- Stores that follow one another, for the loops that write digits and words.
use mathlib.Core.Path.{◌≡◌, refl, ap, ◌∙◌}
use mathlib.Core.List.{List, [], ◌∷◌, ◌++◌}
use Prim.Native.Nat.{ℕ, zero, suc, ◌+◌, ◌-◌, ◌/◌, ◌%◌, ◌<◌, ◌≤◌}
use native.Mathlib.Nat.{add-zero, not-suc-le-zero}
use native.Mathlib.Omega.{arith}
use lib.ListN.{length, set, length-append}
use lib.Seq.{sets, set_comm}
use Rattle.writer.specs.Digits.{glyph, hex_digits}

pub sets_append : (xs : List ℕ) (at : ℕ) (ys zs : List ℕ) → sets (sets xs at ys) (at + length ys) zs ≡ sets xs at (ys ++ zs)
sets_append xs at [] zs = ap (λ (k : ℕ). sets xs k zs) (add-zero at)
sets_append xs at (y ∷ ys) zs =
    ap (λ (k : ℕ). sets (sets (set xs at y) (suc at) ys) k zs) (omega arith) ∙ sets_append (set xs at y) (suc at) ys zs

-- the same, where the place is known by another name
sets_then : (xs : List ℕ) (at : ℕ) (ys zs : List ℕ) (n : ℕ) → length ys ≡ n → sets (sets xs at ys) (at + n) zs ≡ sets xs at (ys ++ zs)
sets_then xs at ys zs n e = rw (← e) (sets_append xs at ys zs)

-- a store behind others may come before them
set_first : (xs : List ℕ) (at : ℕ) (ys : List ℕ) (j y : ℕ) → at + length ys ≤ j → sets (set xs j y) at ys ≡ set (sets xs at ys) j y
set_first xs at [] j y h = refl
set_first xs at (x ∷ ys) j y h =
    ap (λ (l : List ℕ). sets l (suc at) ys) (set_comm xs j at y x (λ e. omega arith)) ∙ set_first (set xs at x) (suc at) ys j y (omega arith)

pub length_hex : (k n : ℕ) → length (hex_digits k n) ≡ k
unfolding hex_digits
length_hex zero n = refl
length_hex (suc k) n = length-append (hex_digits k (n / 16)) (glyph (n % 16) ∷ []) ∙ rw (length_hex k (n / 16)) (omega arith)

-- the last digit first, then those before it
pub hex_last : (xs : List ℕ) (at k n : ℕ) → 0 < k → sets (set xs (at + (k - 1)) (glyph (n % 16))) at (hex_digits (k - 1) (n / 16)) ≡ sets xs at (hex_digits k n)
unfolding hex_digits
hex_last xs at zero n h = absurd (not-suc-le-zero h)
hex_last xs at (suc k) n h =
    let e : suc k - 1 ≡ k = omega arith in
    let d : length (hex_digits k (n / 16)) ≡ k = length_hex k (n / 16) in
    rw e
    (set_first xs at (hex_digits k (n / 16)) (at + k) (glyph (n % 16)) (omega arith)
    ∙ sets_then xs at (hex_digits k (n / 16)) (glyph (n % 16) ∷ []) k d)
