-- Which tops of an address are right, said by its size and by its bits.
use Prim.Native.Nat.{ℕ, zero, suc, ◌+◌, ◌-◌, ◌/◌, ◌%◌, ◌^◌, ◌≤◌, ◌<◌}
use native.Mathlib.Nat.{mod-lt, pow-suc, zero-div}
use native.Mathlib.Numerals.{add-one}
use native.Mathlib.Omega.{arith}
use mathlib.Core.Path.{◌≡◌, refl, sym, ap, ◌∙◌}
use mathlib.Core.Bool.{Bool, true, false, ◌||◌, or-true}
use mathlib.Core.Logic.{◌⊎◌, inl, inr, ⊎_elim}
use lib.Dec.{eqb, lit<}
use lib.Pow.{pow_pos, shr-shr, shr_lt, high, ones_split, ones_lt}
use borrow.Author.Tests.{eqb-true, eqb-false, eq-eqb, ne_eqb}
use Rattle.bits.specs.Bits.{bit}
use Rattle.scheme.specs.Scheme.{is_sv39, sv32, sv39, format_of}
use Rattle.scheme.specs.declared.PagingScheme.{PagingScheme}
use Rattle.walker.specs.Descent.{top_ok}

-- ---- document 01's

module _ (s : PagingScheme) (e : is_sv39 s ≡ false) (va : ℕ) where
  is_32 : format_of s ≡ sv32
  unfolding format_of
  is_32 = rw e

  pub low_right : va < 2 ^ 32 → top_ok (format_of s) va ≡ true
  unfolding top_ok
  low_right h = rw is_32 (rw (eq-eqb (va / 2 ^ 32) 0 (omega arith)))

  pub high_wrong : 2 ^ 32 ≤ va → top_ok (format_of s) va ≡ false
  unfolding top_ok
  high_wrong h = rw is_32 (rw (ne_eqb (va / 2 ^ 32) 0 (λ z. omega arith)))

-- ---- Sv39's

-- a number whose n digits are all clear, or all set
all_clear : (n x : ℕ) → x < 2 ^ n → ((j : ℕ) → j < n → x / 2 ^ j % 2 ≡ 0) → x ≡ 0
all_clear zero x h d = omega arith
all_clear (suc n) x h d =
    let half : x / 2 < 2 ^ n = shr_lt n 1 (rw add-one h) in
    let rest = all_clear n (x / 2) half (λ j l. ap (λ (m : ℕ). m % 2) (shr-shr x 1 j) ∙ d (1 + j) (omega arith)) in
    omega (arith, d 0 (omega arith), rest)

all_set : (n x : ℕ) → x < 2 ^ n → ((j : ℕ) → j < n → x / 2 ^ j % 2 ≡ 1) → x ≡ 2 ^ n - 1
all_set zero x h d = omega arith
all_set (suc n) x h d =
    let half : x / 2 < 2 ^ n = shr_lt n 1 (rw add-one h) in
    let rest = all_set n (x / 2) half (λ j l. ap (λ (m : ℕ). m % 2) (shr-shr x 1 j) ∙ d (1 + j) (omega arith)) in
    rw pow-suc (omega (arith, d 0 (omega arith), rest, pow_pos n))

-- and such a number's digits
ones_digit : (m j : ℕ) → (2 ^ (suc m + j) - 1) / 2 ^ j % 2 ≡ 1
ones_digit m j =
    ap (λ (x : ℕ). x / 2 ^ j % 2) (ones_split (suc m) j)
    ∙ ap (λ (x : ℕ). x % 2) (high (2 ^ suc m - 1) j (ones_lt j))
    ∙ rw pow-suc (omega (arith, pow_pos m))

-- two digits that are 1 alike are the same
same_digit : (a b : ℕ) → a < 2 → b < 2 → eqb a 1 ≡ eqb b 1 → a ≡ b
same_digit a b h l e = go (eqb b 1) refl
  where
    go : (t : Bool) → eqb b 1 ≡ t → a ≡ b
    go true p = omega (arith, eqb-true a 1 (e ∙ p), eqb-true b 1 p)
    go false p =
        let x : a ≡ 1 → ⊥ = eqb-false a 1 (e ∙ p) in
        let y : b ≡ 1 → ⊥ = eqb-false b 1 p in
        omega arith

module _ (va : ℕ) (wide : va < 2 ^ 64) where
  -- what lies from bit 38 on
  top : ℕ
  top = va / 2 ^ 38

  digit_at : (j : ℕ) → top / 2 ^ j % 2 ≡ va / 2 ^ (38 + j) % 2
  unfolding top
  digit_at j = ap (λ (m : ℕ). m % 2) (shr-shr va 38 j)

  top_lt : top < 2 ^ 26
  unfolding top
  top_lt = omega arith

  is_right : (top ≡ 0) ⊎ (top ≡ 2 ^ 26 - 1) → top_ok sv39 va ≡ true
  unfolding top_ok top
  is_right (inl e) = rw (eq-eqb (va / 2 ^ 38) 0 e)
  is_right (inr e) = rw (eq-eqb (va / 2 ^ 38) (2 ^ 26 - 1) e) (or-true (eqb (va / 2 ^ 38) 0))

  right_is : top_ok sv39 va ≡ true → (top ≡ 0) ⊎ (top ≡ 2 ^ 26 - 1)
  unfolding top_ok top
  right_is h = go (eqb (va / 2 ^ 38) 0) refl (eqb (va / 2 ^ 38) (2 ^ 26 - 1)) refl h
    where
      go : (a : Bool) → eqb (va / 2 ^ 38) 0 ≡ a → (b : Bool) → eqb (va / 2 ^ 38) (2 ^ 26 - 1) ≡ b → a || b ≡ true
          → (va / 2 ^ 38 ≡ 0) ⊎ (va / 2 ^ 38 ≡ 2 ^ 26 - 1)
      go true p b q t = inl (eqb-true _ 0 p)
      go false p true q t = inr (eqb-true _ (2 ^ 26 - 1) q)
      go false p false q t = let z : ◌≡◌ {A = ℕ} 0 1 = cc in absurd (omega arith)

  pub equal_right : ((k : ℕ) → 38 < k → k < 64 → bit k va ≡ bit 38 va) → top_ok sv39 va ≡ true
  unfolding bit
  equal_right same = is_right (go (va / 2 ^ 38 % 2) refl (mod-lt (va / 2 ^ 38) (lit< tt)))
    where
      each : (d : ℕ) → va / 2 ^ 38 % 2 ≡ d → (j : ℕ) → j < 26 → top / 2 ^ j % 2 ≡ d
      each d e zero l = digit_at 0 ∙ e
      each d e (suc j) l =
          digit_at (suc j)
          ∙ same_digit _ _ (mod-lt (va / 2 ^ (38 + suc j)) (lit< tt)) (mod-lt (va / 2 ^ 38) (lit< tt)) (same (38 + suc j) (omega arith) (omega arith))
          ∙ e

      go : (d : ℕ) → va / 2 ^ 38 % 2 ≡ d → d < 2 → (top ≡ 0) ⊎ (top ≡ 2 ^ 26 - 1)
      go zero e h = inl (all_clear 26 top top_lt (each 0 e))
      go (suc zero) e h = inr (all_set 26 top top_lt (each 1 e))
      go (suc (suc d)) e h = absurd (omega arith)

  pub right_equal : top_ok sv39 va ≡ true → (k : ℕ) → 38 < k → k < 64 → bit k va ≡ bit 38 va
  unfolding bit
  right_equal h k low high = ⊎_elim (go 0 (λ j l. ap (λ (m : ℕ). m % 2) (zero-div _))) (go (2 ^ 26 - 1) ones) (right_is h)
    where
      ones : (j : ℕ) → j < 26 → (2 ^ 26 - 1) / 2 ^ j % 2 ≡ 1
      ones j l = let e : 26 ≡ suc (25 - j) + j = omega arith in ap (λ (n : ℕ). (2 ^ n - 1) / 2 ^ j % 2) e ∙ ones_digit (25 - j) j

      -- all digits of the top are d
      go : (x : ℕ) {d : ℕ} → ((j : ℕ) → j < 26 → x / 2 ^ j % 2 ≡ d) → top ≡ x → eqb (va / 2 ^ k % 2) 1 ≡ eqb (va / 2 ^ 38 % 2) 1
      go x {d} all e =
          let digit : (j : ℕ) → j < 26 → va / 2 ^ (38 + j) % 2 ≡ d = λ j l. sym (digit_at j) ∙ ap (λ (m : ℕ). m / 2 ^ j % 2) e ∙ all j l in
          let at : 38 + (k - 38) ≡ k = omega arith in
          let here : va / 2 ^ k % 2 ≡ d = ap (λ (n : ℕ). va / 2 ^ n % 2) (sym at) ∙ digit (k - 38) (omega arith) in
          ap (λ (m : ℕ). eqb m 1) (here ∙ sym (digit 0 (omega arith)))

pub is_39 : (s : PagingScheme) → is_sv39 s ≡ true → format_of s ≡ sv39
unfolding format_of
is_39 s e = rw e
