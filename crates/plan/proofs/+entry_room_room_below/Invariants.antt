-- `room_below` at a level calls `entry_room` at that level for each index, which calls `room_below` one level down: the levels left fall from call
-- to call, and within a table the entries left.
use Rattle.std.proofs.Common.{◌≡◌, ◌≤◌, ◌+◌, ◌-◌, ◌*◌}
use Rattle.plan.specs.Levels.{room_at, room_from}
use Rattle.plan.proofs.+entry_room_room_below.Given as goal

abbrev pub decreases-entry_room : goal.decreases-entry_room
decreases-entry_room l = 2 * (l.p.scheme.levels - l.level)

abbrev pub decreases-room_below : goal.decreases-room_below
decreases-room_below l = 2 * (l.p.scheme.levels - l.level) + 1

-- what was added up so far and what is still to come
abbrev pub invariant-room_below-loop-idx : goal.invariant-room_below-loop-idx
invariant-room_below-loop-idx l = (l.sum + room_from l.p l.level l.parent l.idx ≡ room_at l.p l.level l.parent) × (l.idx ≤ l.n)
