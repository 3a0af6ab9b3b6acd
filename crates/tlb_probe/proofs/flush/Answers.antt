-- The entries are the slots of all sets.
use Rattle.std.proofs.Common.{true, rules}
use Rattle.tlb.specs.Cache.{flush_in}
use Rattle.tlb.specs.State.{tlb_flush}
use Rattle.tlb_probe.proofs.flush.Goals as goal

pub returns : goal.returns
unfolding tlb_flush flush_in
returns c = rw (c.flush_slots-u.ensures (λ e. true) (λ a b h. search rules), c.requires.full)
