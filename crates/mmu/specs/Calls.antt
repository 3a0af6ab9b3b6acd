-- The published calls: what each answers, and the state and RAM it leaves, for every state. "Order: every call on a state tests 3 first,
-- then `set_scheme` tests 1 and `reconfigure` 2." "A refusal returns its number, the state it was handed (the default one from a refused
-- `new`), and RAM as it was."
use Rattle.std.specs.Prelude.{ℕ, Bool, true, false, cond, List, leb, Err, Ok}
use Rattle.access.specs.declared.Denied.TheVariants as Denied
use Rattle.scheme.specs.Scheme.{valid_of}
use Rattle.scheme.specs.Satp.{mode_of}
use Rattle.scheme.specs.declared.PagingScheme.{PagingScheme}
use Rattle.scheme.specs.declared.satp.SatpMode.{SatpMode}
use Rattle.scheme.specs.declared.satp.SatpMode.TheVariants.{Bare, Paged, Neither}
use Rattle.scheme.specs.declared.refusal.Refusal.{Refusal}
use Rattle.scheme.specs.declared.refusal.Refusal.TheVariants.{BadScheme, TooManyEntries, Unfit, BadMode}
use Rattle.walk.specs.declared.Access.{Access}
use Rattle.entry.specs.Geometry.{entries_for, default_config}
use Rattle.entry.specs.declared.TlbConfig.{TlbConfig}
use Rattle.tlb.specs.State.{tlb_flush, tlb_flush_vaddr, tlb_reconfigure}
use Rattle.state.specs.State.{with_tlb, state_new, with_scheme, fit_of}
use Rattle.access.specs.Translate.{served_of, served_ram}
use Rattle.state.specs.declared.Mmu.{Mmu}
use Rattle.mmu.specs.declared.Kept.{Kept}
use Rattle.access.specs.declared.Served.{Served}

abbrev pub granted_with : Mmu → Kept
granted_with m = record { said = Ok tt; mmu = m }

abbrev pub refused_with : Refusal → Mmu → Kept
refused_with r m = record { said = Err r; mmu = m }

-- not "the TLB would have more than 128 entries"
abbrev pub room_for : TlbConfig → Bool
room_for c = leb (entries_for c.entry_count c.associativity) 128

unfoldable pub new_of : TlbConfig → Kept
new_of c = cond (room_for c) (granted_with (state_new c)) (refused_with TooManyEntries (state_new default_config))

-- 3 on a state that is not fit, and else what comes next
abbrev pub if_fit : Mmu → Kept → Kept
if_fit m next = cond (fit_of m) next (refused_with Unfit m)

unfoldable pub set_scheme_of : Mmu → PagingScheme → Kept
set_scheme_of m s = if_fit m (cond (valid_of s) (granted_with (with_scheme m s)) (refused_with BadScheme m))

unfoldable pub reconfigure_of : Mmu → TlbConfig → Kept
reconfigure_of m c = if_fit m (cond (room_for c) (granted_with (with_tlb m (tlb_reconfigure m.tlb c))) (refused_with TooManyEntries m))

unfoldable pub flush_of : Mmu → Kept
flush_of m = if_fit m (granted_with (with_tlb m (tlb_flush m.tlb)))

unfoldable pub flush_vaddr_of : Mmu → ℕ → Kept
flush_vaddr_of m va = if_fit m (granted_with (with_tlb m (tlb_flush_vaddr m.tlb va)))

-- not "a satp mode that is neither"
abbrev pub is_known : SatpMode → Bool
is_known Bare = true
is_known Paged = true
is_known Neither = false

unfoldable pub mode_known : PagingScheme → ℕ → Bool
mode_known s raw = is_known (mode_of s raw)

abbrev pub stopped : Refusal → Mmu → Served
stopped why m = record { said = record { words = 0; outcome = Err (Denied.Refused why) }; mmu = m }

-- "10, from `translate`, enabled or not, .. after 3"
unfoldable pub translate_of : Mmu → Access → List ℕ → Served
translate_of m q ram =
    cond (fit_of m) (cond (mode_known m.scheme m.satp.raw) (served_of m q ram) (stopped BadMode m)) (stopped Unfit m)

unfoldable pub translate_ram : Mmu → Access → List ℕ → List ℕ
translate_ram m q ram = cond (fit_of m) (cond (mode_known m.scheme m.satp.raw) (served_ram m q ram) ram) ram
