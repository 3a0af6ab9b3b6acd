-- What the geometry promises: the least power of two, and as many sets of the ways as make the entries.
use Prim.Native.Nat.{ℕ, zero, suc, ◌+◌, ◌*◌, ◌/◌, ◌^◌, ◌≤◌, ◌<◌}
use mathlib.Core.Path.{◌≡◌, refl, ap}
use mathlib.Core.Bool.{Bool, true, false, cond}
use native.Mathlib.Nat.{mul-div_cancel, le-div_iff_mul-le, mul-le-mul_right, pow-suc}
use native.Mathlib.Omega.{arith}
use lib.Dec.{ltb, lit<}
use borrow.Author.Tests.{ltb-true, ltb-false}
use Rattle.entry.specs.Geometry.{pow_up, ways_for, entries_for, sets_for}

-- p is the least power of two at or above n
pub record LeastPower (n p : ℕ) : Type 0 where
  pub power : ℕ
  pub is : p ≡ 2 ^ power
  pub above : n ≤ p
  pub least : p / 2 < n

module _ (n : ℕ) where
  least_from : (k j : ℕ) → 2 ^ j / 2 < n → n ≤ 2 ^ (j + k) → LeastPower n (pow_up k (2 ^ j) n)
  unfolding pow_up
  least_from zero j l h = let e : j + 0 ≡ j = omega arith in record { power = j; is = refl; above = rw e at h; least = l }
  least_from (suc k) j l h = go (ltb (2 ^ j) n) refl (least_from k (suc j))
    where
      go : (b : Bool) → ltb (2 ^ j) n ≡ b →
          (2 ^ suc j / 2 < n → n ≤ 2 ^ (suc j + k) → LeastPower n (pow_up k (2 ^ suc j) n)) →
          LeastPower n (cond b (pow_up k (2 ^ j * 2) n) (2 ^ j))
      go true q f =
          let e : j + suc k ≡ suc j + k = omega arith in
          let d : 2 ^ suc j / 2 ≡ 2 ^ j = rw (pow-suc 2 j) (mul-div_cancel (2 ^ j) (lit< tt)) in
          rw (← pow-suc 2 j) (f (rw d (ltb-true (2 ^ j) n q)) (rw e at h))
      go false q f = record { power = j; is = refl; above = ltb-false _ n q; least = l }

-- a count of 16 bits, at least 1, is raised to the least power of two
pub raised : (n : ℕ) → 0 < n → n ≤ 2 ^ 16 → LeastPower n (pow_up 16 1 n)
raised n h k = least_from n 16 0 h k

module _ (count ways : ℕ) where
  pub ways_some : 0 < ways_for ways
  ways_some = omega arith

  -- the entries are a multiple of the ways: as many as the sets
  pub entries_sets : sets_for count ways * ways_for ways ≡ entries_for count ways
  unfolding entries_for sets_for
  entries_sets = ap (λ (n : ℕ). n * ways_for ways) (mul-div_cancel _ ways_some)

  pub sets_some : 0 < sets_for count ways
  unfolding entries_for sets_for
  sets_some = let h : 0 < ways_for ways = ways_some in rw mul-div_cancel ((le-div_iff_mul-le ways_some).1 (omega arith))

  pub entries_ways : ways_for ways ≤ entries_for count ways
  entries_ways = omega (arith, entries_sets, mul-le-mul_right (ways_for ways) sets_some)
