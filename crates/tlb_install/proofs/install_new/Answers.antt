-- The free slot, or the victim's, by what the search answers.
use Rattle.std.proofs.Common.{true, rules}
use Rattle.slots.specs.Slots.{wanted_of}
use Rattle.tlb.specs.Cache.{install_new}
use Rattle.tlb_install.proofs.install_new.Goals as goal

pub returns-in-Some : goal.returns-in-Some
unfolding install_new
returns-in-Some c = rw (c.store.ensures, ← c.first_slot.ensures.first (wanted_of true 0 0) (λ a b h. search rules), c.in-Some.is)

pub returns-in-None : goal.returns-in-None
unfolding install_new
returns-in-None c = rw (c.replace.ensures, ← c.first_slot.ensures.first (wanted_of true 0 0) (λ a b h. search rules), c.in-None.is)
