-- What is heard along a run: a list of accesses and flushes, from a state and a RAM on.
use Rattle.std.specs.Prelude.{ℕ, List, [], ◌∷◌, Err, Ok, Result, ⊤}
use Rattle.access.specs.declared.Denied.{Denied}
use Rattle.access.specs.declared.Place.{Place}
use Rattle.scheme.specs.declared.refusal.Refusal.{Refusal}
use Rattle.walk.specs.declared.Access.{Access}
use Rattle.mmu.specs.Calls.{flush_of, flush_vaddr_of, translate_of}
use Rattle.state.specs.declared.Mmu.{Mmu}
use Rattle.session.specs.Session.{step_mmu, step_ram}
use Rattle.session.specs.declared.Settings.{Settings}
use Rattle.session.specs.declared.Event.{Event}
use Rattle.session.specs.declared.Event.TheVariants.{Translate, Flush, FlushAt}

-- what two runs have in common: "scheme, satp and switches equal and fixed"
abbrev pub settings_of : Mmu → Settings
settings_of m = record {
  scheme = m.scheme;
  enabled = m.enabled;
  force = m.force_translate;
  tlb_on = m.tlb_enabled;
  satp = m.satp.raw;
}

-- the accesses of a list of events: "one list of accesses, each with its privilege, .. with flushes put in anywhere"
unfoldable pub accesses : List Event → List Access
accesses [] = []
accesses (Translate q ∷ es) = q ∷ accesses es
accesses (Flush ∷ es) = accesses es
accesses (FlushAt va ∷ es) = accesses es

-- ---- what is heard

-- an answer without its stall and its count of words: an address, a fault's cause and address, or a refusal
pub data Heard : Type 0 where
  At : ℕ → Heard
  Faults : ℕ → ℕ → Heard
  Refused : Refusal → Heard

abbrev pub heard_of : Result Place Denied → Heard
heard_of (Ok p) = At p.paddr
heard_of (Err (Denied.Fault f)) = Faults f.cause f.vaddr
heard_of (Err (Denied.Refused r)) = Refused r

-- the answers to the accesses, in order
unfoldable pub answers : List Event → Mmu → List ℕ → List Heard
answers [] m ram = []
answers (Translate q ∷ es) m ram =
    heard_of (translate_of m q ram).said.outcome ∷ answers es (step_mmu (Translate q) m ram) (step_ram (Translate q) m ram)
answers (Flush ∷ es) m ram = answers es (step_mmu Flush m ram) (step_ram Flush m ram)
answers (FlushAt va ∷ es) m ram = answers es (step_mmu (FlushAt va) m ram) (step_ram (FlushAt va) m ram)

abbrev pub outcome_refusals : Result Place Denied → List Refusal → List Refusal
outcome_refusals (Ok p) rest = rest
outcome_refusals (Err (Denied.Fault f)) rest = rest
outcome_refusals (Err (Denied.Refused r)) rest = r ∷ rest

abbrev pub said_refusals : Result ⊤ Refusal → List Refusal → List Refusal
said_refusals (Ok _) rest = rest
said_refusals (Err r) rest = r ∷ rest

-- what one event is refused with, if it is, before the rest
unfoldable pub refused_by : Event → Mmu → List ℕ → List Refusal → List Refusal
refused_by (Translate q) m ram rest = outcome_refusals (translate_of m q ram).said.outcome rest
refused_by Flush m ram rest = said_refusals (flush_of m).said rest
refused_by (FlushAt va) m ram rest = said_refusals (flush_vaddr_of m va).said rest

-- the refusals of a whole run, of accesses and of flushes
unfoldable pub refusals : List Event → Mmu → List ℕ → List Refusal
refusals [] m ram = []
refusals (e ∷ es) m ram = refused_by e m ram (refusals es (step_mmu e m ram) (step_ram e m ram))
