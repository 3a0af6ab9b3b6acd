-- What good contents say of the lengths: the bodies lie in the file, and end with it.
use Prim.Native.Nat.{ℕ, suc, ◌+◌, ◌%◌, ◌≤◌}
use native.Mathlib.Omega.{arith}
use mathlib.Core.Path.{◌≡◌, refl}
use mathlib.Core.Bool.{Bool, true, false, ◌||◌, and-eq-true_iff}
use mathlib.Core.List.{List}
use lib.Dec.{eqb, leb}
use lib.ListN.{length}
use borrow.Author.Tests.{eqb-true, leb-true}
use Rattle.layout.specs.Layout.{head_ok, front_ok, row_ok, rows_ok, sizes_ok, len_at, map_len, ram_len, access_len, good_in, good_of}

pub record Fits (s : List ℕ) : Type 0 where
  pub map_len_fits : (map_len s ≡ 0 → ⊥) → map_len s ≡ 20
  pub ram_len_fits : ram_len s ≤ 32768
  pub access_len_fits : access_len s ≤ 24000
  pub access_whole : access_len s % 8 ≡ 0
  pub whole : 72 + map_len s + ram_len s + access_len s ≡ length s

-- a length of 0 or 20 that is not 0
other : (m : ℕ) → eqb m 0 || eqb m 20 ≡ true → (m ≡ 0 → ⊥) → m ≡ 20
other m e ne = go (eqb m 0) refl e
  where
    go : (b : Bool) → eqb m 0 ≡ b → b || eqb m 20 ≡ true → m ≡ 20
    go true f e = absurd (ne (eqb-true m 0 f))
    go false f e = eqb-true m 20 e

module _ (s : List ℕ) where
  next : (n k start : ℕ) → rows_ok s (suc n) k start ≡ true → rows_ok s n (k + 1) (start + len_at s k) ≡ true
  unfolding rows_ok
  next n k start e = ((and-eq-true_iff (row_ok s k start) _).0 e).1

  ends : rows_ok s 4 0 52 ≡ true → len_at s 0 ≡ 20 → 72 + map_len s + ram_len s + access_len s ≡ length s
  unfolding rows_ok
  ends e twenty =
      let end : 52 + len_at s 0 + map_len s + ram_len s + access_len s ≡ length s =
      eqb-true _ _ (next 0 3 _ (next 1 2 _ (next 2 1 _ (next 3 0 52 e)))) in
      omega arith

  pub head_fits : head_ok 1 4 8 s ≡ true → Fits s
  unfolding head_ok sizes_ok
  head_fits e =
      let front = (and-eq-true_iff (front_ok 1 4 s) _).0 ((and-eq-true_iff (leb 52 (length s)) _).0 e).1 in
      let rows = (and-eq-true_iff _ _).0 front.1 in
      let sizes = (and-eq-true_iff _ _).0 rows.1 in
      let map = (and-eq-true_iff _ _).0 sizes.1 in
      let ram = (and-eq-true_iff _ _).0 map.1 in
      let accesses = (and-eq-true_iff _ _).0 ram.1 in
      record {
        map_len_fits = other (map_len s) map.0;
        ram_len_fits = leb-true _ _ ram.0;
        access_len_fits = leb-true _ _ accesses.0;
        access_whole = eqb-true _ _ accesses.1;
        whole = ends rows.0 (eqb-true _ _ sizes.0);
      }

  pub good_fits : good_of s ≡ true → Fits s
  unfolding good_in
  good_fits e = head_fits ((and-eq-true_iff (head_ok 1 4 8 s) _).0 e).0
