-- After i turns the first i bytes are the other slice's.
use Rattle.std.proofs.Common.{◌≡◌, take}
use Rattle.bundle_run.proofs.copy.Given as goal

abbrev pub invariant-loop-i : goal.invariant-loop-i
invariant-loop-i l = take l.i l.to ≡ take l.i l.from
