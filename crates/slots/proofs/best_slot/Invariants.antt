-- Choosing on from i with the best so far gives what the whole choice gives.
use Rattle.std.proofs.Common.{◌≡◌, ◌<◌, Bool}
use Rattle.slots.specs.Slots.{Ranks, entry_at, best_in, best_from}
use Rattle.slots.proofs.best_slot.Given as goal

abbrev pub invariant-loop-i : goal.invariant-loop-i
invariant-loop-i g l =
    (l.best < l.end)
    × ((newest : Bool) → Ranks g.F.Fn l.better newest → best_in newest l.es l.start l.end ≡ best_from newest l.es l.i l.end l.best (entry_at l.es l.best).age)
