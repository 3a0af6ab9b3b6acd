-- `field`: the bits from `at` on, and of those the low ones.
use mathlib.Core.Path.{sym}
use Rattle.bits.proofs.field.Goals as goal

pub returns : goal.returns
returns c = rw (sym c.shr64.ensures, sym c.from.ensures) c.low_bits.ensures
