-- What is counted along a run, by the published definitions at each access: the state and RAM are those that the access finds.
use Rattle.std.specs.Prelude.{ℕ, ◌+◌, Bool, true, false, not, cond, ◌&&◌, List, [], ◌∷◌, Err, None, Ok, Option, Result, Some, is_none, is_err}
use Rattle.walk.specs.declared.Fault.{Fault}
use Rattle.walk.specs.declared.LeafAt.{LeafAt}
use Rattle.walk.specs.declared.Access.{Access}
use Rattle.entry.specs.declared.TlbEntry.{TlbEntry}
use Rattle.slots.specs.Slots.{wanted_of, first_in}
use Rattle.tlb.specs.Cache.{start_of, slot_of}
use Rattle.tlb.specs.State.{shape_of, ways_of}
use Rattle.tlb.specs.declared.Tlb.{Tlb}
use Rattle.state.specs.State.{fit_of}
use Rattle.access.specs.Translate.{bypassed, consult_of, entry_permits, miss_walk, made_of}
use Rattle.mmu.specs.Calls.{mode_known}
use Rattle.state.specs.declared.Mmu.{Mmu}
use Rattle.session.specs.Session.{step_mmu, step_ram}
use Rattle.session.specs.declared.Event.{Event}
use Rattle.session.specs.declared.Event.TheVariants.{Translate, Flush, FlushAt}

-- how many accesses of a run pass a test of the state, the access and the RAM
unfoldable pub count_of : (Mmu → Access → List ℕ → Bool) → List Event → Mmu → List ℕ → ℕ
count_of f [] m ram = 0
count_of f (Translate q ∷ es) m ram = cond (f m q ram) 1 0 + count_of f es (step_mmu (Translate q) m ram) (step_ram (Translate q) m ram)
count_of f (Flush ∷ es) m ram = count_of f es (step_mmu Flush m ram) (step_ram Flush m ram)
count_of f (FlushAt va ∷ es) m ram = count_of f es (step_mmu (FlushAt va) m ram) (step_ram (FlushAt va) m ram)

-- "accesses neither bypassed nor refused"
unfoldable pub translated : Mmu → Access → List ℕ → Bool
translated m q ram = (fit_of m && mode_known m.scheme m.satp.raw) && not (bypassed m q)

-- an entry that decides the access, and permits it
abbrev pub permits : Access → Option TlbEntry → Bool
permits q (Some e) = entry_permits e q
permits q None = false

-- "a found entry that permits the access is a hit"
unfoldable pub found_hit : Mmu → Access → List ℕ → Bool
found_hit m q ram = translated m q ram && permits q (consult_of m q).lookup

-- an entry that decides the access, and forbids it
abbrev pub forbids : Access → Option TlbEntry → Bool
forbids q (Some e) = not (entry_permits e q)
forbids q None = false

-- "faults on a found entry"
unfoldable pub found_fault : Mmu → Access → List ℕ → Bool
found_fault m q ram = translated m q ram && forbids q (consult_of m q).lookup

-- an access that walks: "All else is a miss"
unfoldable pub walks : Mmu → Access → List ℕ → Bool
walks m q ram = translated m q ram && is_none (consult_of m q).lookup

-- "a faulting walk"
unfoldable pub walk_fault : Mmu → Access → List ℕ → Bool
walk_fault m q ram = walks m q ram && is_err (miss_walk m q ram)

-- "reuses the first matching slot in its set, else the first invalid slot, else a victim": no slot of the set matches, and none is invalid
unfoldable pub takes_victim : Tlb → TlbEntry → Bool
takes_victim t e =
    let start = start_of (shape_of t) e.vpn e.mask_bits in
    is_none (slot_of (shape_of t) e.vpn e.asid t.entries e.mask_bits)
    && is_none (first_in (wanted_of true 0 0) t.entries start (start + ways_of t))

abbrev pub leaf_victim : Mmu → Access → Result LeafAt Fault → Bool
leaf_victim m q (Ok l) = m.tlb_enabled && takes_victim m.tlb (made_of m q l)
leaf_victim m q (Err stop) = false

-- a walk whose leaf is installed over a victim, in the cache as the probe left it
unfoldable pub evicts : Mmu → Access → List ℕ → Bool
evicts m q ram = walks m q ram && leaf_victim (consult_of m q).mmu q (miss_walk m q ram)
