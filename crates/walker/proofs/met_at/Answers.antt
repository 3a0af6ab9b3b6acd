-- `met_at`: the word is loaded and judged, or it is not readable.
use mathlib.Core.Path.{sym, ◌∙◌, ap}
use Rattle.walker.specs.Descent.{entry_is}
use Rattle.memory.proofs.Reading.{is_word, no_word}
use Rattle.walker.proofs.Cases.{said, unreadable, is_entry}
use Rattle.walker.proofs.met_at.Goals as goal

pub load-requires : goal.load-requires
load-requires c = c.requires.0.short

pub returns-in_default : goal.returns-in_default
returns-in_default c = unreadable _ _ _ _ (no_word _ _ _ _ (said c.load.ensures c.in_default.is))

pub returns : goal.returns
returns c =
    let w = is_word _ _ _ _ (said c.load.ensures c.in-Some.is) in
    let s = c.args in
    c.entry_is.ensures
    ∙ ap (entry_is s.shift s.at) (c.new.ensures ∙ sym w.1)
    ∙ is_entry _ _ _ _ w.0
