-- What was found so far, and the rest, give the whole.
use Rattle.std.proofs.Common.{◌≡◌, ◌&&◌, drop, take}
use Rattle.slots.specs.Slots.{all_fit, classes_fit}
use Rattle.slots.proofs.classes_fit.Given as goal

abbrev pub invariant-loop-e : goal.invariant-loop-e
invariant-loop-e l = l.fit && all_fit (drop l.e-index (take l.n l.fn.es)) ≡ classes_fit l.n l.fn.es
