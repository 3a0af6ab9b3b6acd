-- `rows_ok`: while the rows pass, those that are left make the whole test (`Rows`).
-- A start is at most 2^32 for each body passed, and so no sum wraps.
use Rattle.std.proofs.Common.{◌≡◌, ◌+◌, ◌-◌, ◌*◌, ◌≤◌}
use Rattle.layout.specs.Layout.{rows_ok}
use Rattle.layout.proofs.rows_ok.Given as goal

abbrev pub invariant-loop-k : goal.invariant-loop-k
invariant-loop-k l = (l.start ≤ 52 + 0x1_0000_0000 * l.k) × (rows_ok l.file (4 - l.k) l.k l.start ≡ rows_ok l.file 4 0 52)
