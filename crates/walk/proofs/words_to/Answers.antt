-- `words_to`: one case of the definition for each answer.
use Rattle.walker.proofs.Cases.{said}
use Rattle.walk.proofs.words_to.Goals as goal

pub returns-then-top_ok : goal.returns-then-top_ok
returns-then-top_ok c = rw (said c.top_ok.ensures c.if-top_ok.true, c.from.ensures)

pub returns-else-top_ok : goal.returns-else-top_ok
returns-else-top_ok c = rw (said c.top_ok.ensures c.if-top_ok.false)
