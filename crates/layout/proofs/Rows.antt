-- The rows of the contents that are left, after one more.
use Rattle.std.proofs.Common.{◌≡◌, false, true, ℕ, suc, ◌+◌, ◌-◌, ◌<◌, ◌≤◌, List, length, eqb, arith}
use Rattle.layout.specs.Layout.{row_ok, rows_ok, len_at}

module _ (s : List ℕ) (k start : ℕ) where
  pub bad_row : k < 4 → row_ok s k start ≡ false → rows_ok s (4 - k) k start ≡ false
  unfolding rows_ok
  bad_row h e =
      let n : 4 - k ≡ suc (4 - (k + 1)) = omega arith in
      rw (n, e)

  pub next_row : k < 4 → row_ok s k start ≡ true → rows_ok s (4 - k) k start ≡ rows_ok s (4 - (k + 1)) (k + 1) (start + len_at s k)
  unfolding rows_ok
  next_row h e =
      let n : 4 - k ≡ suc (4 - (k + 1)) = omega arith in
      rw (n, e)

  pub last_row : 4 ≤ k → rows_ok s (4 - k) k start ≡ eqb start (length s)
  unfolding rows_ok
  last_row h =
      let n : 4 - k ≡ 0 = omega arith in
      rw n
