-- A session: the state that it starts from, and what a list of events leaves, folded over the published calls of the MMU.
use Rattle.std.specs.Prelude.{ℕ, cond, List, [], ◌∷◌, Err, Result, ⊤}
use Rattle.scheme.specs.declared.refusal.Refusal.{Refusal}
use Rattle.scheme.specs.Refusals.{on_grant}
use Rattle.scheme.specs.Satp.{satp_with}
use Rattle.scheme.specs.Scheme.{valid_of}
use Rattle.scheme.specs.declared.refusal.Refusal.TheVariants.{BadScheme}
use Rattle.entry.specs.Geometry.{default_config}
use Rattle.entry.specs.declared.TlbConfig.{TlbConfig}
use Rattle.state.specs.State.{state_new}
use Rattle.state.specs.declared.Mmu.{Mmu}
use Rattle.mmu.specs.Calls.{new_of, set_scheme_of, translate_of, translate_ram, flush_of, flush_vaddr_of}
use Rattle.session.specs.declared.Settings.{Settings}
use Rattle.session.specs.declared.Event.{Event}
use Rattle.session.specs.declared.Event.TheVariants.{Translate, Flush, FlushAt}

-- ---- the start

-- a state with satp and "switches (1 enabled, 2 force, 4 TLB on)" given
abbrev pub switched : Mmu → Settings → Mmu
switched m t =
    record {
      tlb = m.tlb;
      scheme = m.scheme;
      satp = satp_with t.satp;
      enabled = t.enabled;
      force_translate = t.force;
      tlb_enabled = t.tlb_on;
    }

-- 1, then 2. Refusal 10 is no setting's: `translate` gives it
unfoldable pub settings_said : TlbConfig → Settings → Result ⊤ Refusal
settings_said config t = cond (valid_of t.scheme) (new_of config).said (Err BadScheme)

-- what `new`, `set_scheme` and the switches give: "an empty cache of its own size and policy, scheme, satp and switches"; where the settings are
-- refused, "the default one", as "from a refused `new`"
unfoldable pub start_of : TlbConfig → Settings → Mmu
start_of config t =
    on_grant (settings_said config t) (switched (set_scheme_of (new_of config).mmu t.scheme).mmu t) (state_new default_config)

-- ---- one event

abbrev pub step_mmu : Event → Mmu → List ℕ → Mmu
step_mmu (Translate q) m ram = (translate_of m q ram).mmu
step_mmu Flush m ram = (flush_of m).mmu
step_mmu (FlushAt va) m ram = (flush_vaddr_of m va).mmu

-- "only the walker writing RAM"
abbrev pub step_ram : Event → Mmu → List ℕ → List ℕ
step_ram (Translate q) m ram = translate_ram m q ram
step_ram Flush m ram = ram
step_ram (FlushAt va) m ram = ram

-- ---- all of them, from a state and a RAM on

unfoldable pub end_mmu : List Event → Mmu → List ℕ → Mmu
end_mmu [] m ram = m
end_mmu (e ∷ es) m ram = end_mmu es (step_mmu e m ram) (step_ram e m ram)

unfoldable pub end_ram : List Event → Mmu → List ℕ → List ℕ
end_ram [] m ram = ram
end_ram (e ∷ es) m ram = end_ram es (step_mmu e m ram) (step_ram e m ram)
