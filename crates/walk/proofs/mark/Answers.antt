-- `mark`: a word that the marks change is stored, which a readable place takes; else RAM stays.
use mathlib.Core.Path.{◌≡◌, sym, ap, ◌∙◌}
use Rattle.memory.proofs.Reading.{stored}
use Rattle.walk.specs.Answer.{mark_of}
use Rattle.walk.proofs.Marks.{mark_put, mark_keep}
use Rattle.walk.proofs.mark.Goals.{After-marked-word}
use Rattle.walk.proofs.mark.Goals as goal

-- the word to be stored is the leaf's with its marks
is_mark : (c : After-marked-word) → c.marked-word.result.raw ≡ mark_of c.args.kind c.args.raw
is_mark c = c.marked-word.ensures ∙ ap (mark_of c.args.kind) c.new.ensures

pub returns-then-word-raw : goal.returns-then-word-raw
returns-then-word-raw c =
    c.store.ensures.1
    ∙ sym (stored _ _ _ _ _ c.requires)
    ∙ mark_put _ _ _ _ _ _ (is_mark (goal.at.returns-then-word-raw c).After-marked-word) c.if-word-raw.true

pub returns-else-word-raw : goal.returns-else-word-raw
returns-else-word-raw c = mark_keep _ _ _ _ _ _ (is_mark (goal.at.returns-else-word-raw c).After-marked-word) c.if-word-raw.false
