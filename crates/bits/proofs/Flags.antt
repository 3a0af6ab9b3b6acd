-- What a mask of one bit tests and sets, in the arithmetic of `bit` and `with_bit`: once, over the bit's place.
use Prim.Native.Nat.{ℕ, zero, suc, ◌*◌, ◌/◌, ◌%◌, ◌^◌, ◌<◌}
use native.Mathlib.Nat.{mod-lt, one-mul, zero-mul}
use native.Mathlib.Omega.{arith}
use mathlib.Core.Path.{◌≡◌, refl, sym, ap, ◌∙◌}
use mathlib.Core.Bool.{not}
use lib.Bits.{bit_and, bit_or, and_high, or_add_and}
use lib.Pow.{pow_pos, high_ones}
use lib.Dec.{eqb, lit<}
use borrow.Author.Tests.{ne_eqb}
use Rattle.bits.specs.Bits.{bit, with_bit}

-- the mask cuts the digit out
and_bit : (n w : ℕ) → bit_and w (2 ^ n) ≡ (w / 2 ^ n % 2) * 2 ^ n
and_bit n w = ap (bit_and w) (sym (high_ones 1 n ∙ one-mul (2 ^ n))) ∙ and_high w 1 n

pub data Digit (d : ℕ) : Type 0 where
  is0 : d ≡ 0 → Digit d
  is1 : d ≡ 1 → Digit d

pub digit : (d : ℕ) → d < 2 → Digit d
digit zero h = is0 refl
digit (suc zero) h = is1 refl
digit (suc (suc d)) h = is0 (omega arith)

module _ (n w : ℕ) where
  clear : w / 2 ^ n % 2 ≡ 0 → bit_and w (2 ^ n) ≡ 0
  clear e = and_bit n w ∙ ap (λ (d : ℕ). d * 2 ^ n) e ∙ zero-mul (2 ^ n)

  full : w / 2 ^ n % 2 ≡ 1 → bit_and w (2 ^ n) ≡ 2 ^ n
  full e = and_bit n w ∙ ap (λ (d : ℕ). d * 2 ^ n) e ∙ one-mul (2 ^ n)

  test_at : Digit (w / 2 ^ n % 2) → not (eqb (bit_and w (2 ^ n)) 0) ≡ bit n w
  unfolding bit
  test_at (is0 e) = rw (clear e, e)
  test_at (is1 e) = rw (e, ne_eqb (bit_and w (2 ^ n)) 0 (λ z. omega (arith, full e, pow_pos n)))

  -- `w & 2^n != 0` is bit n
  pub test_bit : not (eqb (bit_and w (2 ^ n)) 0) ≡ bit n w
  test_bit = test_at (digit (w / 2 ^ n % 2) (mod-lt (w / 2 ^ n) (lit< tt)))

  set_at : Digit (w / 2 ^ n % 2) → bit_or w (2 ^ n) ≡ with_bit n w
  unfolding bit with_bit
  set_at (is0 e) = rw e (omega (arith, or_add_and w (2 ^ n), clear e))
  set_at (is1 e) = rw e (omega (arith, or_add_and w (2 ^ n), full e))

  -- `w | 2^n` is w with bit n set
  pub set_bit : bit_or w (2 ^ n) ≡ with_bit n w
  set_bit = set_at (digit (w / 2 ^ n % 2) (mod-lt (w / 2 ^ n) (lit< tt)))
