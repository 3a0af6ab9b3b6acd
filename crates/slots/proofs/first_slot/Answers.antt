-- The slot at i decides, or the search goes on at the next.
use Rattle.std.proofs.Common.{◌≡◌, arith}
use Rattle.slots.proofs.SlotLaws.{first_none, first_step}
use Rattle.slots.proofs.first_slot.Goals as goal

pub returns-then-passes-clause-first : goal.returns-then-passes-clause-first
returns-then-passes-clause-first g c = λ p t.
    let e : c.passes.result ≡ p _ = t _ _ c.passes.ensures in
    rw (c.loop-i.invariant p t, first_step p c.args.es c.args.end c.loop-i.i (omega arith) (omega arith), ← e, c.if-passes.true)

pub loop-i-preserved : goal.loop-i-preserved
loop-i-preserved g c = λ p t.
    let e : c.passes.result ≡ p _ = t _ _ c.passes.ensures in
    rw (c.loop-i.invariant p t, first_step p c.args.es c.args.end c.loop-i.i (omega arith) (omega arith), ← e, c.if-passes.false)

pub returns-clause-first : goal.returns-clause-first
returns-clause-first g c = λ p t.
    let e : c.loop-i.i ≡ c.args.end = omega arith in
    rw (c.loop-i.invariant p t, e, first_none)
