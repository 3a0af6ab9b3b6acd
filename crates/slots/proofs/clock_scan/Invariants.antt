-- The round that is left, from the hand on, gives what the whole round gives.
use Rattle.std.proofs.Common.{◌≡◌, ◌-◌, ◌<◌}
use Rattle.slots.specs.Slots.{clock_from}
use Rattle.slots.proofs.clock_scan.Given as goal

abbrev pub invariant-loop-turn : goal.invariant-loop-turn
invariant-loop-turn l =
    (l.hand < l.ways)
    × (clock_from l.ways l.start l.ways l.from l.fn.es ≡ clock_from (l.ways - l._turn) l.start l.ways l.hand l.us)
