-- The slot at i is taken where it is better, and the choice goes on at the next.
use Rattle.std.proofs.Common.{◌≡◌, arith}
use Rattle.slots.proofs.SlotLaws.{best_none, best_step}
use Rattle.slots.proofs.best_slot.Goals.{then-better, else-better}
use Rattle.slots.proofs.best_slot.Goals as goal

pub loop-i-preserved : goal.loop-i-preserved
loop-i-preserved g c =
    let l = c.loop-i in
    elim c.if-better.branch [
      | then-better w ↦ (omega arith, λ newest r. rw (l.invariant.1 newest r, best_step newest c.args.es c.args.end l.i l.best _ (omega arith) (omega arith), ← r _ _ _ c.better.ensures, w.if-better.true, w.best-is))
      | else-better w ↦ (omega arith, λ newest r. rw (l.invariant.1 newest r, best_step newest c.args.es c.args.end l.i l.best _ (omega arith) (omega arith), ← r _ _ _ c.better.ensures, w.if-better.false, w.best-is))
    ]

pub returns-clause-best : goal.returns-clause-best
returns-clause-best g c = λ newest r.
    let e : c.loop-i.i ≡ c.args.end = omega arith in
    rw (c.loop-i.invariant.1 newest r, e, best_none)
