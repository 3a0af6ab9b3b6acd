-- What a good file says of its bodies: each of them passes its own test.
use Prim.Native.Nat.{ℕ, zero, suc, ◌+◌, ◌*◌, ◌/◌, ◌<◌}
use native.Mathlib.Nat.{not-suc-le-zero}
use native.Mathlib.Omega.{arith}
use mathlib.Core.Path.{◌≡◌}
use mathlib.Core.Bool.{true, ◌||◌, and-eq-true_iff}
use mathlib.Core.List.{List}
use lib.Dec.{eqb}
use borrow.Author.Tests.{ne_eqb}
use Rattle.memory.specs.Word.{le_at}
use Rattle.layout.specs.Layout.{byte_at, map_len, access_len, first_at, head_ok, settings_ok, map_ok, fields_ok}
use Rattle.layout.specs.Layout.{record_ok, records_ok, bodies_ok, good_in, good_of}

module _ (s : List ℕ) where
  one_of : (n i p : ℕ) → i < n → records_ok 8 s p n ≡ true → record_ok s (p + 8 * i) ≡ true
  unfolding records_ok
  one_of zero i p h e = absurd (not-suc-le-zero h)
  one_of (suc n) zero p h e =
      let here : p + 8 * 0 ≡ p = omega arith in
      rw here ((and-eq-true_iff (record_ok s p) _).0 e).0
  one_of (suc n) (suc i) p h e =
      let next : p + 8 * suc i ≡ (p + 8) + 8 * i = omega arith in
      rw next (one_of n i (p + 8) (omega arith) ((and-eq-true_iff (record_ok s p) _).0 e).1)

  bodies : good_of s ≡ true → bodies_ok 4 8 s ≡ true
  unfolding good_in
  bodies e = ((and-eq-true_iff (head_ok 1 4 8 s) _).0 e).1

  pub good_settings : good_of s ≡ true → settings_ok s 52 ≡ true
  unfolding bodies_ok
  good_settings e = ((and-eq-true_iff (settings_ok s 52) _).0 (bodies e)).0

  behind : good_of s ≡ true
      → (eqb (map_len s) 0 || map_ok s 72 ≡ true) × (records_ok 8 s (first_at 4 s) (access_len s / 8) ≡ true)
  unfolding bodies_ok
  behind e =
      (and-eq-true_iff (eqb (map_len s) 0 || map_ok s 72) _).0 ((and-eq-true_iff (settings_ok s 52) _).0 (bodies e)).1

  pub good_map : (map_len s ≡ 0 → ⊥) → good_of s ≡ true → map_ok s 72 ≡ true
  good_map ne e = rw (ne_eqb (map_len s) 0 ne) at (behind e).0

  pub good_record : (i p : ℕ) → p ≡ first_at 4 s + 8 * i → i < access_len s / 8 → good_of s ≡ true
      → fields_ok (le_at 4 s p) (byte_at s (p + 4)) (byte_at s (p + 5)) (byte_at s (p + 6)) ≡ true
  unfolding record_ok
  good_record i p at h e =
      let ok = one_of (access_len s / 8) i (first_at 4 s) h (behind e).1 in
      rw at ((and-eq-true_iff (eqb (byte_at s (first_at 4 s + 8 * i + 7)) 0) _).0 ok).1
