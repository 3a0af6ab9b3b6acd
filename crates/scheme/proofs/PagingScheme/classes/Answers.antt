-- `classes`: the classes of the levels passed are written, lowest first, and `below` is the sum of their widths.
use Rattle.std.proofs.Common.{rules, arith, ◌≡◌, ◌+◌, ◌-◌, ◌≤◌, ◌∙◌, sym, length, drop, get_or}
use lib.Seq.{length-take-le}
use Rattle.scheme.specs.Scheme.{total, widths_of}
use Rattle.scheme.proofs.Widths.{Valid, valid, total_cons, total_end, total_drop}
use Rattle.scheme.proofs.Classes.{class_none, class_more}
use Rattle.scheme.proofs.PagingScheme.classes.Goals.{In-loop-i, Start}
use Rattle.scheme.proofs.PagingScheme.classes.Goals as goal

-- the scheme is valid, and its array holds every used width
good : (c : Start) → Valid c.args.self
good c = valid c.args.self c.requires

long : (c : Start) → c.args.self.levels ≤ length c.args.self.level_bits
long c =
    let four : length c.args.self.level_bits ≡ 4 = search rules in
    omega (arith, (good c).four)

count : (c : Start) → length (widths_of c.args.self) ≡ c.args.self.levels
count c = length-take-le c.args.self.levels c.args.self.level_bits (long c)

-- the width that a turn reads, and the widths from it on
step : (c : In-loop-i) → total (drop (c.from-n.result - (c.loop-i.i + 1)) (widths_of c.args.self)) ≡ c.loop-i.below + get_or c.args.self.level_bits (c.from-n.result - 1 - c.loop-i.i) 0
step c =
    let l = c.args.self.level_bits in
    let at = c.from-n.result - (c.loop-i.i + 1) in
    let here : c.from-n.result - 1 - c.loop-i.i ≡ at = omega arith in
    let above : c.from-n.result - c.loop-i.i ≡ at + 1 = omega arith in
    let rest = rw above at c.loop-i.invariant.1 in
    rw here (omega (arith, rest, total_cons l _ (long (goal.at.bounds-self-n c).Start) at (omega (arith, c.from-n.ensures))))

pub loop-i-init : goal.loop-i-init
loop-i-init c =
    let n = c.from-n.result in
    let start = (goal.at.loop-i-init c).Start in (
      class_none (widths_of c.args.self) n (count start ∙ sym c.from-n.ensures),
      sym (total_end c.args.self.level_bits _ (long start) (n - 0) (omega (arith, c.from-n.ensures))),
    )

pub bounds-masks-i : goal.bounds-masks-i
bounds-masks-i c = omega (arith, (good (goal.at.bounds-masks-i c).Start).four, c.from-n.ensures)

pub bounds-self-n : goal.bounds-self-n
bounds-self-n c = omega (arith, (good (goal.at.bounds-self-n c).Start).four, c.from-n.ensures)

pub overflow_add-below : goal.overflow_add-below
overflow_add-below c =
    let at = c.from-n.result - (c.loop-i.i + 1) in
    omega (arith, step (goal.at.overflow_add-below c).In-loop-i, total_drop (widths_of c.args.self) at, (good (goal.at.overflow_add-below c).Start).most)

pub loop-i-preserved : goal.loop-i-preserved
loop-i-preserved c =
    let l = c.loop-i in
    let start = (goal.at.loop-i-preserved c).Start in
    let more = class_more (widths_of c.args.self) c.from-n.result (count start ∙ sym c.from-n.ensures) l.i c.loop-i-test.true (omega (arith, (good start).four, c.from-n.ensures)) in
    (rw (l.invariant.0, l.invariant.1) more, sym (step (goal.at.loop-i-preserved c).In-loop-i))
