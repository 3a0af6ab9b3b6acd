-- The least power of two at or above a number is what doubling from 1 gives.
use Rattle.std.proofs.Common.{◌≡◌, ℕ, ◌*◌, ◌/◌, ◌^◌, ◌≤◌, ◌<◌, zero, suc, max, arith}
use Rattle.std.specs.Int.{IsPowerOfTwo}
use Rattle.std.proofs.Math.Pow.{pow_mono}
use Rattle.std.proofs.lemmas.Nat.{pow_pos}
use native.Mathlib.Nat.{pow-suc}
use Rattle.entry.specs.Geometry.{pow_up}
use Rattle.entry.proofs.Laws.{LeastPower, raised}

doubled : (i j : ℕ) → i < j → 2 ^ i * 2 ≤ 2 ^ j
doubled i j h = rw (← pow-suc 2 i) (pow_mono h)

-- of two powers, the one that is least is no greater
no_greater : (n i j : ℕ) → n ≤ 2 ^ i → 2 ^ j / 2 < n → j ≤ i
no_greater n i j h l = grind (arith, doubled i j)

pub least_is : (n p : ℕ) → IsPowerOfTwo p → n ≤ p → p / 2 < max 1 n → n ≤ 2 ^ 16 → p ≡ pow_up 16 1 n
unfolding pow_up
least_is zero p (k, e) h l b = omega (arith, pow_pos k)
least_is (suc n) p (k, e) h l b =
    let r : LeastPower (suc n) (pow_up 16 1 (suc n)) = raised (suc n) (omega arith) b in
    let same : k ≡ r.power = omega (arith, no_greater (suc n) k r.power (omega arith) (rw r.is at r.least), no_greater (suc n) r.power k (rw r.is at r.above) (omega arith)) in
    rw (e, same, r.is)
