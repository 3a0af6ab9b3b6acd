-- So far the first of the slots are as the flush leaves them.
use Rattle.std.proofs.Common.{◌≡◌, ◌+◌, ◌-◌, Bool}
use borrow.Rule.Slice.PartMut.{put_mid}
use Rattle.entry.specs.declared.TlbEntry.{TlbEntry}
use Rattle.slots.specs.Slots.{Tells, cleared_where, map_in}
use Rattle.slots.proofs.flush_slots.Given as goal

abbrev pub invariant-loop-e : goal.invariant-loop-e
invariant-loop-e g l =
    (p : TlbEntry → Bool) → Tells g.F.Fn l.goes p →
    put_mid l.start (l.start + l.n - l.start) l.fn.es l.e-items ≡ map_in (cleared_where p) l.start l.e-index l.fn.es
