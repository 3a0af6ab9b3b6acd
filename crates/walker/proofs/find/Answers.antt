-- `find`: the test is what `descend` requires; each side is one of the definition's two cases.
use Rattle.std.specs.Prelude.{Ok}
use mathlib.Core.Path.{ap}
use Rattle.walker.specs.Found.{found_of}
use Rattle.walker.proofs.Cases.{said}
use Rattle.walker.proofs.find.Goals as goal

pub descend-requires : goal.descend-requires
descend-requires c = said c.is_valid.ensures c.if-is_valid.true

pub returns-then-is_valid : goal.returns-then-is_valid
unfolding found_of
returns-then-is_valid c = rw (said c.is_valid.ensures c.if-is_valid.true) (ap Ok c.descend.ensures)

pub returns : goal.returns
unfolding found_of
returns c = rw (said c.is_valid.ensures c.if-is_valid.false)
