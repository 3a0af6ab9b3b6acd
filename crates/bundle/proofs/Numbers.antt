-- A number in its range is the number of what it stands for.
use Prim.Native.Nat.{ℕ, zero, suc, ◌+◌, ◌*◌, ◌/◌, ◌%◌, ◌^◌, ◌≤◌, ◌<◌}
use native.Mathlib.Nat.{mod-lt, zero-mul, one-mul}
use native.Mathlib.Omega.{arith}
use mathlib.Core.Path.{◌≡◌, refl, sym}
use mathlib.Core.Bool.{Bool, true, false, ◌&&◌, ◌||◌, and-eq-true_iff}
use mathlib.Core.List.{[], ◌∷◌}
use mathlib.Core.Logic.{◌⊎◌, inl, inr, ⊎_elim}
use lib.Dec.{eqb, leb, ltb, lit<, eqb-suc-zero}
use borrow.Author.Tests.{eqb-true, leb-true}
use Rattle.bits.specs.Bits.{bit}
use Rattle.bits.proofs.Flags.{Digit, is0, is1, digit}
use Rattle.entry.specs.Entry.{policy_number}
use Rattle.plan.specs.Map.{flag}
use Rattle.layout.specs.Layout.{privilege_ok, fields_ok}
use Rattle.bundle.specs.Codes.{policy_of, access_number, access_of, mode_number, mode_of, rule_number, rule_of}
use Rattle.bundle.specs.Codes.{signed32, bits32, kind_number, mib_number, kind_of}
use Rattle.bundle.specs.Parts.{event_of}
use Rattle.bundle.specs.Claims.{event_numbers}

either : (x y : Bool) → x || y ≡ true → (x ≡ true) ⊎ (y ≡ true)
either true y e = inl refl
either false y e = inr e

pub policy_number_lem : (n : ℕ) → n ≤ 5 → policy_number (policy_of n) ≡ n
policy_number_lem zero h = refl
policy_number_lem (suc zero) h = refl
policy_number_lem (suc (suc zero)) h = refl
policy_number_lem (suc (suc (suc zero))) h = refl
policy_number_lem (suc (suc (suc (suc zero)))) h = refl
policy_number_lem (suc (suc (suc (suc (suc zero))))) h = refl
policy_number_lem (suc (suc (suc (suc (suc (suc n)))))) h = absurd (omega arith)

access_number_lem : (n : ℕ) → n ≤ 2 → access_number (access_of n) ≡ n
access_number_lem zero h = refl
access_number_lem (suc zero) h = refl
access_number_lem (suc (suc zero)) h = refl
access_number_lem (suc (suc (suc n))) h = absurd (omega arith)

mode_number_lem : (n : ℕ) → privilege_ok n ≡ true → mode_number (mode_of n) ≡ n
mode_number_lem n e = ⊎_elim (λ l. low n (leb-true n 1 l)) (λ t. rw (eqb-true n 3 t)) (either (leb n 1) (eqb n 3) e)
  where
    low : (n : ℕ) → n ≤ 1 → mode_number (mode_of n) ≡ n
    low zero h = refl
    low (suc zero) h = refl
    low (suc (suc n)) h = absurd (omega arith)

pub rule_number_lem : (n : ℕ) → n ≤ 1 → rule_number (rule_of n) ≡ n
rule_number_lem zero h = refl
rule_number_lem (suc zero) h = refl
rule_number_lem (suc (suc n)) h = absurd (omega arith)

pub kind_number_lem : (n mib : ℕ) → n ≤ 1 → kind_number (kind_of n mib) ≡ n
kind_number_lem zero mib h = refl
kind_number_lem (suc zero) mib h = refl
kind_number_lem (suc (suc n)) mib h = absurd (omega arith)

signed_bits : (x : ℕ) → x < 2 ^ 32 → bits32 (signed32 x) ≡ x
signed_bits x h = go (ltb x (2 ^ 31)) refl
  where
    go : (b : Bool) → ltb x (2 ^ 31) ≡ b → bits32 (signed32 x) ≡ x
    go true e = rw e
    go false e = rw e (omega arith)

pub mib_number_lem : (n mib : ℕ) → mib < 2 ^ 32 → eqb n 1 || eqb mib 0 ≡ true → mib_number (kind_of n mib) ≡ mib
mib_number_lem zero mib h e = sym (eqb-true mib 0 e)
mib_number_lem (suc n) mib h e = rw (eqb-suc-zero n) (signed_bits mib h)

-- a flag's part of a number
pub flag_bit : (n b : ℕ) → flag n (bit n b) ≡ b / 2 ^ n % 2 * 2 ^ n
unfolding bit
flag_bit n b = go (digit (b / 2 ^ n % 2) (mod-lt (b / 2 ^ n) (lit< tt)))
  where
    go : Digit (b / 2 ^ n % 2) → flag n (bit n b) ≡ b / 2 ^ n % 2 * 2 ^ n
    go (is0 e) = rw e (sym (zero-mul (2 ^ n)))
    go (is1 e) = rw e (sym (one-mul (2 ^ n)))

pub switch_number_lem : (b : ℕ) → b ≤ 7 → flag 0 (bit 0 b) + flag 1 (bit 1 b) + flag 2 (bit 2 b) ≡ b
switch_number_lem b h = rw (flag_bit 0 b, flag_bit 1 b, flag_bit 2 b) (omega arith)

-- four digits and the quotient above them make an even number
add_up : (b q1 q2 q3 q4 q5 d1 d2 d3 d4 : ℕ)
    → b ≡ 2 * q1 → q1 ≡ d1 + 2 * q2 → q2 ≡ d2 + 2 * q3 → q3 ≡ d3 + 2 * q4 → q4 ≡ d4 + 2 * q5
    → 1 + d1 * 2 + d2 * 4 + d3 * 8 + d4 * 16 + q5 * 32 ≡ 1 + b
add_up b q1 q2 q3 q4 q5 d1 d2 d3 d4 e1 e2 e3 e4 e5 = omega arith

pub flags_number : (b : ℕ) → b ≤ 63 → b % 2 ≡ 0
    → 1 + flag 1 (bit 1 b) + flag 2 (bit 2 b) + flag 3 (bit 3 b) + flag 4 (bit 4 b) + flag 5 (bit 5 b) ≡ 1 + b
flags_number b h e =
    let top : b / 32 % 2 ≡ b / 32 = omega arith in
    rw (flag_bit 1 b, flag_bit 2 b, flag_bit 3 b, flag_bit 4 b, flag_bit 5 b, top)
    (add_up b (b / 2) (b / 4) (b / 8) (b / 16) (b / 32) (b / 2 % 2) (b / 4 % 2) (b / 8 % 2) (b / 16 % 2)
    (omega arith) (omega arith) (omega arith) (omega arith) (omega arith))

-- the four numbers of a record
module _ (address access privilege : ℕ) where
  abbrev pub Kept : ℕ → Type 0
  Kept operation =
      event_numbers (event_of address access privilege operation) ≡ address ∷ access ∷ privilege ∷ operation ∷ []

  translate : leb access 2 && privilege_ok privilege ≡ true → Kept 0
  translate e =
      let k = (and-eq-true_iff (leb access 2) (privilege_ok privilege)).0 e in
      rw (access_number_lem access (leb-true access 2 k.0), mode_number_lem privilege k.1)

  unused : eqb access 0 && eqb privilege 0 ≡ true → (access ≡ 0) × (privilege ≡ 0)
  unused e =
      let k = (and-eq-true_iff (eqb access 0) (eqb privilege 0)).0 e in
      (eqb-true access 0 k.0, eqb-true privilege 0 k.1)

  module _ (operation : ℕ) where
    flush : access ≡ 0 → privilege ≡ 0 → eqb operation 2 || (eqb operation 1 && eqb address 0) ≡ true → Kept operation
    flush a p e =
        ⊎_elim
        (λ t. rw (a, p, eqb-true operation 2 t))
        (λ t.
        let k = (and-eq-true_iff (eqb operation 1) (eqb address 0)).0 t in
        rw (a, p, eqb-true operation 1 k.0, eqb-true address 0 k.1))
        (either (eqb operation 2) _ e)

    pub event_numbers_lem : fields_ok address access privilege operation ≡ true → Kept operation
    event_numbers_lem e =
        ⊎_elim
        (λ t.
        let k = (and-eq-true_iff (eqb operation 0) _).0 t in
        rw (eqb-true operation 0 k.0) (translate k.1))
        (λ t.
        let k = (and-eq-true_iff (eqb access 0 && eqb privilege 0) _).0 t in
        let u = unused k.0 in
        flush u.0 u.1 k.1)
        (either (eqb operation 0 && (leb access 2 && privilege_ok privilege)) _ e)
