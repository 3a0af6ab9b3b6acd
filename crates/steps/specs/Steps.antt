-- The accesses of a bundle, one after another: their lines, by the session that they make.
use Rattle.std.specs.Prelude.{ℕ, zero, suc, ◌+◌, List, [], ◌∷◌, ◌++◌}
use Rattle.state.specs.declared.Mmu.{Mmu}
use Rattle.mmu.specs.Calls.{translate_of}
use Rattle.session.specs.Session.{step_mmu, step_ram, end_mmu}
use Rattle.session.specs.declared.Event.{Event}
use Rattle.session.specs.declared.Event.TheVariants.{Translate, Flush, FlushAt}
use Rattle.bundle.specs.Parts.{event_at}
use Rattle.text.specs.Lines.{answer_line, flush_line, flush_at_line, tallies_line}

-- what the n records from a place on ask for: "Accesses, 8 bytes each"
unfoldable pub events_from : List ℕ → ℕ → ℕ → List Event
events_from s p zero = []
events_from s p (suc n) = event_at s p ∷ events_from s (p + 8) n

-- "`va ok pa stall`, `va fault cause`, `flush`, or `flush va`"
abbrev pub step_line : Event → Mmu → List ℕ → List ℕ
step_line (Translate q) m ram = answer_line q.vaddr (translate_of m q ram).said.outcome
step_line Flush m ram = flush_line
step_line (FlushAt va) m ram = flush_at_line va

-- those of all of them, from a state and a RAM on
unfoldable pub lines_from : List Event → Mmu → List ℕ → List ℕ
lines_from [] m ram = []
lines_from (e ∷ es) m ram = step_line e m ram ++ lines_from es (step_mmu e m ram) (step_ram e m ram)

-- the lines, and "Then the tallies line"
abbrev pub text_from : List Event → Mmu → List ℕ → List ℕ
text_from es m ram = lines_from es m ram ++ tallies_line (end_mmu es m ram).tlb.stats
