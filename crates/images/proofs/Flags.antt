-- Bits packed into a number, and read from it.
use Prim.Native.Nat.{ℕ, zero, suc, ◌+◌, ◌*◌, ◌/◌, ◌%◌, ◌^◌}
use native.Mathlib.Nat.{zero-div, one-mul, zero-mul}
use native.Mathlib.Omega.{arith}
use mathlib.Core.Path.{◌≡◌, sym}
use mathlib.Core.Bool.{Bool, true, false, cond}
use mathlib.Core.List.{List, [], ◌∷◌}
use lib.Dec.{eqb}
use lib.ListN.{get_or}
use lib.Pow.{shr-shr}
use Rattle.bits.specs.Bits.{bit}
use Rattle.plan.specs.Map.{flag}
use Rattle.entry.specs.declared.TlbEntry.{TlbEntry}
use Rattle.entry_image.specs.EntryImage.{entry_flags}
use Rattle.image.specs.Image.{switches_of}

abbrev pub digit_of : Bool → ℕ
digit_of b = cond b 1 0

-- the lowest bit first
unfoldable pub packed : List Bool → ℕ
packed [] = 0
packed (b ∷ bs) = digit_of b + 2 * packed bs

low : (b : Bool) (x : ℕ) → eqb ((digit_of b + 2 * x) % 2) 1 ≡ b
low true x = let e : (1 + 2 * x) % 2 ≡ 1 = omega arith in rw e
low false x = let e : (0 + 2 * x) % 2 ≡ 0 = omega arith in rw e

half : (b : Bool) (x : ℕ) → (digit_of b + 2 * x) / 2 ≡ x
half true x = omega arith
half false x = omega arith

pub bit_packed : (bs : List Bool) (k : ℕ) → bit k (packed bs) ≡ get_or bs k false
unfolding bit packed
bit_packed [] k = rw (zero-div (2 ^ k))
bit_packed (b ∷ bs) zero =
    let e : (digit_of b + 2 * packed bs) / 2 ^ 0 ≡ digit_of b + 2 * packed bs = omega arith in
    rw e (low b (packed bs))
bit_packed (b ∷ bs) (suc k) =
    let n : suc k ≡ 1 + k = omega arith in
    rw (n, ← shr-shr (digit_of b + 2 * packed bs) 1 k, half b (packed bs)) (bit_packed bs k)

flag_digit : (n : ℕ) (b : Bool) → flag n b ≡ digit_of b * 2 ^ n
flag_digit n true = sym (one-mul (2 ^ n))
flag_digit n false = sym (zero-mul (2 ^ n))

pub switches_packed : (a b c : Bool) → switches_of a b c ≡ packed (a ∷ b ∷ c ∷ [])
unfolding packed
switches_packed a b c = rw (flag_digit 0 a, flag_digit 1 b, flag_digit 2 c) (omega arith)

abbrev pub flag_list : TlbEntry → List Bool
flag_list e =
    e.valid ∷ e.perms.r ∷ e.perms.w ∷ e.perms.x ∷ e.perms.u ∷ e.global ∷ e.accessed ∷ e.dirty ∷ []

pub flags_packed : (e : TlbEntry) → entry_flags e ≡ packed (flag_list e)
unfolding entry_flags packed
flags_packed e =
    rw (
      flag_digit 0 e.valid,
      flag_digit 1 e.perms.r,
      flag_digit 2 e.perms.w,
      flag_digit 3 e.perms.x,
      flag_digit 4 e.perms.u,
      flag_digit 5 e.global,
      flag_digit 6 e.accessed,
      flag_digit 7 e.dirty,
    )
    (omega arith)
