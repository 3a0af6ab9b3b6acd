-- `fill_table` calls `fill_entry` at its level for each index, and `fill_entry` calls `fill_table` one level down: the levels left fall from call to
-- call, and within a table the entries left.
use Rattle.std.proofs.Common.{◌+◌, ◌-◌, ◌*◌}
use Rattle.installer.proofs.Filled.{Turn}
use Rattle.installer.proofs.+fill_entry_fill_table.Given as goal

abbrev pub decreases-fill_entry : goal.decreases-fill_entry
decreases-fill_entry l = 2 * (l.p.scheme.levels - l.level)

abbrev pub decreases-fill_table : goal.decreases-fill_table
decreases-fill_table l = 2 * (l.p.scheme.levels - l.level) + 1

abbrev pub invariant-fill_table-loop-idx : goal.invariant-fill_table-loop-idx
invariant-fill_table-loop-idx l = Turn l.p l.level l.parent l.low l.initial.ram l.ram l.next_free l.idx
