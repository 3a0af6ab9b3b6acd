-- `walk`: the test is what `walk_valid` requires; each side is one of the definitions' two cases.
use Rattle.std.specs.Prelude.{Ok}
use mathlib.Core.Path.{ap}
use Rattle.walker.proofs.Cases.{said}
use Rattle.walk.specs.Answer.{walk_reply, walk_ram}
use Rattle.walk.proofs.walk.Goals as goal

pub walk_valid-requires : goal.walk_valid-requires
walk_valid-requires c = said c.is_valid.ensures c.if-is_valid.true

pub returns-then-is_valid : goal.returns-then-is_valid
unfolding walk_reply walk_ram
returns-then-is_valid c =
    let e = said c.is_valid.ensures c.if-is_valid.true in
    (rw e (ap Ok c.walk_valid.ensures.0), rw e c.walk_valid.ensures.1)

pub returns : goal.returns
unfolding walk_reply walk_ram
returns c =
    let e = said c.is_valid.ensures c.if-is_valid.false in
    (rw e, rw e)
