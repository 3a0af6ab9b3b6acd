-- Bytes cut out of a list, one after the other, and the numbers that they make.
use Prim.Native.Nat.{ℕ, zero, suc, ◌+◌, ◌*◌, ◌/◌, ◌%◌, ◌≤◌, ◌<◌}
use native.Mathlib.Nat.{zero-add, suc-add}
use native.Mathlib.Omega.{arith}
use mathlib.Core.Path.{◌≡◌, refl, sym, ap, ◌∙◌}
use mathlib.Core.List.{List, [], ◌∷◌, ◌++◌}
use lib.ListN.{length}
use lib.Seq.{slice, slice-cons, slice_empty, take-length}
use Rattle.memory.specs.Word.{le_at}
use Rattle.layout.specs.Layout.{byte_at}
use Rattle.entry_image.specs.EntryImage.{le_bytes}

-- n bytes from p on
unfoldable pub cut : List ℕ → ℕ → ℕ → List ℕ
cut s p zero = []
cut s p (suc n) = byte_at s p ∷ cut s (p + 1) n

module _ (s : List ℕ) where
  pub cut_then : (n m p q : ℕ) → q ≡ p + n → cut s p n ++ cut s q m ≡ cut s p (n + m)
  unfolding cut
  cut_then zero m p q e =
      let here : q ≡ p = omega arith in
      rw (here, zero-add m)
  cut_then (suc n) m p q e = rw (suc-add n m) (ap (λ l. byte_at s p ∷ l) (cut_then n m (p + 1) q (omega arith)))

  pub cut_slice : (n p q : ℕ) → q ≡ p + n → q ≤ length s → slice p q s ≡ cut s p n
  unfolding cut
  cut_slice zero p q e h =
      let here : q ≡ p = omega arith in
      rw (here, slice_empty p s)
  cut_slice (suc n) p q e h =
      let next : suc p ≡ p + 1 = omega arith in
      rw (slice-cons p q s 0 (omega arith) h, next) (ap (λ l. byte_at s p ∷ l) (cut_slice n (p + 1) q (omega arith) h))

  pub cut_whole : (n : ℕ) → length s ≡ n → cut s 0 n ≡ s
  cut_whole n e = sym (cut_slice n 0 n (omega arith) (omega arith)) ∙ rw (← e) (take-length s)

  -- a number's bytes are those that it was read from
  pub number_cut : ((k : ℕ) → byte_at s k < 256) → (n p : ℕ) → le_bytes n (le_at n s p) ≡ cut s p n
  unfolding le_bytes le_at cut
  number_cut bytes zero p = refl
  number_cut bytes (suc n) p =
      let low : (byte_at s p + 256 * le_at n s (p + 1)) % 256 ≡ byte_at s p = omega (arith, bytes p) in
      let high : (byte_at s p + 256 * le_at n s (p + 1)) / 256 ≡ le_at n s (p + 1) = omega (arith, bytes p) in
      rw (low, high) (ap (λ l. byte_at s p ∷ l) (number_cut bytes n (p + 1)))
