-- The records passed, and those that are left.
use Rattle.std.proofs.Common.{◌≡◌, refl, ℕ, zero, suc, ◌+◌, ◌-◌, ◌<◌, ◌≤◌, Bool, true, false, ◌&&◌, List, arith}
use native.Mathlib.Nat.{not-suc-le-zero}
use Rattle.layout.specs.Layout.{record_ok, records_ok}

module _ (s : List ℕ) (p : ℕ) where
  pub next_record : (left : ℕ) (ok : Bool) → 0 < left
      → (ok && record_ok s p) && records_ok 8 s (p + 8) (left - 1) ≡ ok && records_ok 8 s p left
  unfolding records_ok
  next_record zero ok h = absurd (not-suc-le-zero h)
  next_record (suc k) false h = refl
  next_record (suc k) true h =
      let e : suc k - 1 ≡ k = omega arith in
      rw e

  pub last_record : (left : ℕ) (ok : Bool) → left ≤ 0 → ok ≡ ok && records_ok 8 s p left
  unfolding records_ok
  last_record left false h = refl
  last_record left true h =
      let e : left ≡ 0 = omega arith in
      rw e
