-- The slot that answers, or a new one, by what the search answers.
use Rattle.std.proofs.Common.{◌≡◌, false, rules}
use Rattle.slots.specs.Slots.{wanted_of}
use Rattle.tlb.specs.Cache.{slot_of, install_in}
use Rattle.tlb.specs.State.{shape_of, tlb_install}
use Rattle.tlb_install.proofs.install.Goals.{After-first_slot}
use Rattle.tlb_install.proofs.install.Goals as goal

looked : (c : After-first_slot) → let a = c.args in c.first_slot.result ≡ slot_of (shape_of a.t) a.e.vpn a.e.asid a.t.entries a.e.mask_bits
looked c = rw (c.set_for-set.ensures, c.ways_of-ways.ensures) at (c.first_slot.ensures.first (wanted_of false c.args.e.vpn c.args.e.asid) (λ a b h. search rules))

pub returns-in-Some : goal.returns-in-Some
unfolding tlb_install install_in
returns-in-Some c = rw (c.store.ensures, ← looked (goal.at.returns-in-Some c).After-first_slot, c.in-Some.is)

pub returns-in-None : goal.returns-in-None
unfolding tlb_install install_in
returns-in-None c = rw (c.install_new.ensures, c.set_for-set.ensures, c.ways_of-ways.ensures, ← looked (goal.at.returns-in-None c).After-first_slot, c.in-None.is)
