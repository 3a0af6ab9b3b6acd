-- `shr64`: below 2^64, a shift by 64 bits or more leaves 0.
use Rattle.std.proofs.Common.{ℕ, ◌≡◌, ◌/◌, ◌^◌, ◌<◌, ◌∙◌, Option, Some, None, unwrap_or, sym, arith}
use Rattle.std.specs.Option.{SomeIff}
use native.Mathlib.Nat.{div-eq_of_lt}
use Rattle.bits.proofs.Masks.{whole_lt}
use Rattle.bits.proofs.shr64.Goals as goal

shifted : (k x : ℕ) (r : Option ℕ) → x < 2 ^ 64 → SomeIff r (k < 64) (x / 2 ^ k) → unwrap_or r 0 ≡ x / 2 ^ k
shifted k x (Some y) l h = h.1
shifted k x None l h = sym (div-eq_of_lt (whole_lt k (omega (arith, h)) x l))

pub returns : goal.returns
returns c = c.unwrap_or.ensures ∙ shifted c.args.k c.args.x _ c.ranges.x.fits (rw c.from.ensures at c.checked_shr.ensures)
