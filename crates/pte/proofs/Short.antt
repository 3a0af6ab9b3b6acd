-- An entry of 32 bits: "the PPN is bits 31-10", and no bit above 53 is set.
use Prim.Native.Nat.{ℕ, ◌/◌, ◌^◌, ◌<◌}
use native.Mathlib.Omega.{arith}
use mathlib.Core.Path.{◌≡◌}
use mathlib.Core.Bool.{false}
use borrow.Author.Tests.{eq-eqb}
use Rattle.bits.specs.Bits.{field_of}
use Rattle.pte.specs.Entry.{ppn_of, high_bits}

module _ (w : ℕ) (short : w < 2 ^ 32) where
  pub ppn_short : ppn_of w ≡ field_of 10 22 w
  ppn_short = omega arith

  pub high_short : high_bits w ≡ false
  high_short = rw (eq-eqb (w / 2 ^ 54) 0 (omega arith))
