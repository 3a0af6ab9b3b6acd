-- `with_low`: the high bits shifted down and up again, joined with the low bits of the other word.
use Prim.Native.Nat.{ℕ, ◌+◌, ◌*◌, ◌/◌, ◌^◌, ◌<◌}
use mathlib.Core.Path.{ap, ◌∙◌}
use native.Mathlib.Omega.{arith}
use Rattle.bits.proofs.Masks.{join, low_whole}
use Rattle.bits.proofs.with_low.Goals as goal

pub returns-then-k-gt63 : goal.returns-then-k-gt63
returns-then-k-gt63 c =
    let a = c.args in
    low_whole a.k c.if-k-gt63.true a.x a.y (omega arith) (omega arith)

pub returns : goal.returns
returns c =
    let a = c.args in
    let x<64 : a.x < 2 ^ 64 = omega arith in
    join a.x c.low_bits.result a.k x<64 c.low_bits.ensures.1
    ∙ ap (λ (n : ℕ). a.x / 2 ^ a.k * 2 ^ a.k + n) c.low_bits.ensures.0
