-- One slot more is as the flush leaves it.
use Rattle.std.proofs.Common.{◌≡◌, ◌+◌, ◌-◌, set, arith}
use borrow.Rule.Slice.PartMut.{mid_len, put_mid, put_same}
use Rattle.entry.specs.declared.TlbEntry.{TlbEntry}
use Rattle.slots.specs.Slots.{entry_at, cleared_where, map_in}
use Rattle.slots.proofs.SlotLaws.{map_none, put_step}
use Rattle.slots.proofs.flush_slots.Goals.{then-goes, else-goes}
use Rattle.slots.proofs.flush_slots.Goals as goal

pub loop-e-init : goal.loop-e-init
loop-e-init g c = λ p t. rw (map_none, put_same)

pub loop-e-preserved : goal.loop-e-preserved
loop-e-preserved g c = λ p t.
    let a = c.args in
    let l = c.loop-e in
    let some = mid_len a.start (a.start + a.n) a.es (omega arith) in
    let step : (v : TlbEntry) → v ≡ cleared_where p (entry_at l.e-items l.e-index) →
    put_mid a.start (a.start + a.n - a.start) a.es (set l.e-items l.e-index v) ≡ map_in (cleared_where p) a.start (l.e-index + 1) a.es =
    λ v q. put_step (cleared_where p) a.start (a.start + a.n - a.start) l.e-index a.es l.e-items v (omega arith) (omega arith) (l.invariant p t) q in
    elim c.if-goes.branch [
      | then-goes w ↦ rw w.e-items-is (step _ (rw (← t _ _ c.goes.ensures, w.if-goes.true)))
      | else-goes w ↦ rw w.e-items-is (step _ (rw (← t _ _ c.goes.ensures, w.if-goes.false)))
    ]

pub returns : goal.returns
returns g c = λ p t.
    let some = mid_len c.args.start (c.args.start + c.args.n) c.args.es (omega arith) in
    let e : c.loop-e.e-index ≡ c.args.n = omega arith in
    rw e at (c.loop-e.invariant p t)
