-- The search on from i gives what the whole search gives.
use Rattle.std.proofs.Common.{◌≡◌, Bool}
use Rattle.entry.specs.declared.TlbEntry.{TlbEntry}
use Rattle.slots.specs.Slots.{Tells, first_in}
use Rattle.slots.proofs.first_slot.Given as goal

abbrev pub invariant-loop-i : goal.invariant-loop-i
invariant-loop-i g l = (p : TlbEntry → Bool) → Tells g.F.Fn l.passes p → first_in p l.es l.start l.end ≡ first_in p l.es l.i l.end
