-- A set bit is passed, and the first clear one ends the round.
use Rattle.std.proofs.Common.{◌≡◌, ◌-◌, ◌+◌, ◌∙◌, arith, mod-lt}
use Rattle.slots.proofs.SlotLaws.{clock_none, clock_step}
use Rattle.slots.proofs.clock_scan.Goals as goal

pub loop-turn-preserved : goal.loop-turn-preserved
loop-turn-preserved c =
    let l = c.loop-turn in
    let e : c.args.ways - (l._turn + 1) ≡ c.args.ways - l._turn - 1 = omega arith in (
      mod-lt _ (omega arith),
      l.invariant.1 ∙ rw (
        clock_step (c.args.ways - l._turn) _ _ _ _ (omega arith),
        c.if-not-us-start.false,
        e,
      ),
    )

pub returns-then-not-us-start-clause-round : goal.returns-then-not-us-start-clause-round
returns-then-not-us-start-clause-round c =
    let l = c.loop-turn in
    rw (
      l.invariant.1,
      clock_step (c.args.ways - l._turn) _ _ _ _ (omega arith),
      c.if-not-us-start.true,
    )

pub returns-after-loop-turn-clause-round : goal.returns-after-loop-turn-clause-round
returns-after-loop-turn-clause-round c =
    let l = c.loop-turn in
    let z : c.args.ways - l._turn ≡ 0 = omega arith in
    rw (l.invariant.1, z, clock_none)
