-- `bits_from`: a step takes the next width, and past the last none is left.
use Prim.Native.Nat.{min}
use Rattle.std.proofs.Common.{rules, arith, ◌≡◌, ◌≤◌, ◌+◌, ℕ, List, sym, drop, get_or, length, Fits, w8}
use Rattle.std.proofs.Math.ListN.{take}
use Rattle.std.proofs.lemmas.List.{take_min}
use Rattle.scheme.specs.Scheme.{total, widths_of}
use Rattle.scheme.proofs.Widths.{total_cons, total_end}
use Rattle.scheme.proofs.PagingScheme.bits_from.Goals as goal

-- the used widths of four
used : (l : List ℕ) (n levels k : ℕ) → length l ≡ 4 → k ≡ levels → n ≡ min k 4 → take n l ≡ take levels l
used l n levels k four e f = rw (f, e, sym four) (take_min levels l)

pub loop-i-preserved : goal.loop-i-preserved
loop-i-preserved c =
    let l = c.args.self.level_bits in
    let n = c.min-i-end.result in
    let i = c.loop-i.i in
    let four : length l ≡ 4 = search rules in
    let whole : take n l ≡ widths_of c.args.self = used l n _ _ four c.from.ensures c.min-i-end.ensures in
    let long : n ≤ length l = omega (arith, four, c.min-i-end.ensures) in
    let step : total (drop i (widths_of c.args.self)) ≡ get_or l i 0 + total (drop (i + 1) (widths_of c.args.self)) = rw (sym whole) (total_cons l n long i c.loop-i-test.true) in
    let byte : Fits w8 (get_or l i 0) = search rules in
    (omega (arith, byte.fits, c.from-sum-in-loop-i.ensures, c.loop-i.invariant.0), omega (arith, step, c.from-sum-in-loop-i.ensures, c.loop-i.invariant.1))

pub returns : goal.returns
returns c =
    let l = c.args.self.level_bits in
    let n = c.min-i-end.result in
    let i = c.loop-i.i in
    let four : length l ≡ 4 = search rules in
    let whole : take n l ≡ widths_of c.args.self = used l n _ _ four c.from.ensures c.min-i-end.ensures in
    let long : n ≤ length l = omega (arith, four, c.min-i-end.ensures) in
    let none : total (drop i (widths_of c.args.self)) ≡ 0 = rw (sym whole) (total_end l n long i c.loop-i-test.false) in
    omega (arith, none, c.loop-i.invariant.1)
