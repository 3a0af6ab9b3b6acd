-- `low_bits`: a mask of k ones where k is below the word's width, and else the whole word.
use Prim.Native.Nat.{◌<◌}
use native.Mathlib.Nat.{mod-lt}
use native.Mathlib.Omega.{arith}
use lib.Pow.{pow_pos}
use Rattle.bits.proofs.Masks.{one_shl, low_mask, whole, whole_lt}
use Rattle.bits.proofs.low_bits.Goals.{Else-k-gt63}
use Rattle.bits.proofs.low_bits.Goals as goal

pub returns-then-k-gt63 : goal.returns-then-k-gt63
returns-then-k-gt63 c =
    let a = c.args in
    (whole a.k c.if-k-gt63.true a.x (omega arith), whole_lt a.k c.if-k-gt63.true a.x (omega arith))

-- the second way has fewer bits than the word
few : (c : Else-k-gt63) → c.args.k < 64
few c = omega arith

pub overflow_sub-result : goal.overflow_sub-result
overflow_sub-result c = omega (arith, one_shl 64 c.args.k (few c), pow_pos c.args.k)

pub returns : goal.returns
returns c =
    let a = c.args in
    let e = low_mask a.x a.k (few c) in
    (e, rw e (mod-lt a.x (pow_pos a.k)))
