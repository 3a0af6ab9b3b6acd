-- A mask of low bits, made by a shift of 1, in plain arithmetic: once, over the number of bits.
use Prim.Native.Nat.{ℕ, ◌+◌, ◌-◌, ◌*◌, ◌/◌, ◌%◌, ◌^◌, ◌≤◌, ◌<◌}
use native.Mathlib.Nat.{mod-eq_of_lt, lt_of_lt_of_le, div-eq_of_lt}
use native.Mathlib.Omega.{arith}
use mathlib.Core.Path.{◌≡◌, sym, ap, ◌∙◌}
use lib.Bits.{bit_and, bit_or, and_mask, or_shifted}
use lib.Pow.{shl_exact, split, pow_mono, mod-mod-pow}
use lib.Dec.{lit<}
use Rattle.bits.specs.Bits.{with_low}

-- `1 << k`, in a word of n bits
pub one_shl : (n k : ℕ) → k < n → 1 * 2 ^ k % 2 ^ n ≡ 2 ^ k
one_shl n k h = shl_exact {a = 1} 1 k n (lit< tt) (omega arith) ∙ omega arith

-- `x & ((1 << k) - 1)`
pub low_mask : (x k : ℕ) → k < 64 → bit_and x (1 * 2 ^ k % 2 ^ 64 - 1) ≡ x % 2 ^ k
low_mask x k h = ap (λ (m : ℕ). bit_and x (m - 1)) (one_shl 64 k h) ∙ and_mask x k

-- `(x >> k) << k | y`, with y below the k bits
pub join : (x y k : ℕ) → x < 2 ^ 64 → y < 2 ^ k → bit_or (x / 2 ^ k * 2 ^ k % 2 ^ 64) y ≡ x / 2 ^ k * 2 ^ k + y
join x y k h l =
    let fits : x / 2 ^ k * 2 ^ k < 2 ^ 64 = omega (arith, split x k) in
    ap (λ (n : ℕ). bit_or n y) (mod-eq_of_lt fits) ∙ or_shifted (x / 2 ^ k) k y l

-- 64 bits or more are the whole word
module _ (k : ℕ) (h : 63 < k) where
  pub whole_lt : (x : ℕ) → x < 2 ^ 64 → x < 2 ^ k
  whole_lt x l = lt_of_lt_of_le l (pow_mono h)

  pub whole : (x : ℕ) → x < 2 ^ 64 → x ≡ x % 2 ^ k
  whole x l = sym (mod-eq_of_lt (whole_lt x l))

  pub low_whole : (x y : ℕ) → x < 2 ^ 64 → y < 2 ^ 64 → y ≡ with_low k x y
  low_whole x y l m = rw (div-eq_of_lt (whole_lt x l), sym (whole y m)) (omega arith)

-- a word of 64 bits, cut to fewer
pub cut : (n k : ℕ) → k ≤ 64 → n % 2 ^ 64 % 2 ^ k ≡ n % 2 ^ k
cut n k h =
    let e : 64 ≡ (64 - k) + k = omega arith in
    ap (λ (j : ℕ). n % 2 ^ j % 2 ^ k) e ∙ mod-mod-pow n (64 - k) k
