-- What was found so far, and the records that are left, give the whole.
use Rattle.std.proofs.Common.{◌≡◌, ◌&&◌, ◌+◌, ◌*◌, ◌-◌}
use Rattle.layout.specs.Layout.{records_ok}
use Rattle.layout.proofs.records_ok.Given as goal

abbrev pub invariant-loop-i : goal.invariant-loop-i
invariant-loop-i l = l.ok && records_ok 8 l.file (l.at + 8 * l.i) (l.n - l.i) ≡ records_ok 8 l.file l.at l.n
