-- `trace::fill` counts no more bytes than the buffer has.
use Rattle.std.proofs.Common.{◌≤◌, length}
use Rattle.trace.proofs.fill.Given as goal

abbrev pub invariant-loop : goal.invariant-loop
invariant-loop g l = l.n ≤ length l.buffer
