-- The MMU is such a machine: each event does to the TLB's valid entries, to RAM and to the answer what Machine.antt allows. No geometry, no
-- policy and no tally is looked at.
use Rattle.std.specs.Prelude.{Result, Some}
use Rattle.walk.specs.declared.Fault.{Fault}
use Prim.Native.Nat.{ℕ, ◌≤◌}
use mathlib.Core.Path.{◌≡◌, refl, sym, ap, subst, ◌∙◌}
use mathlib.Core.Bool.{Bool, true, false, cond, ◌&&◌, ◌||◌}
use mathlib.Core.List.{List, [], ◌∷◌}
use lib.Dec.{eqb}
use lib.ListN.{length}
use lib.Seq.{length-take-le, take_at}
use borrow.Author.Tests.{leb-true, eqb-true, eq-eqb}
use Rattle.scheme.specs.Refusals.{on_grant}
use Rattle.scheme.specs.Satp.{asid_of}
use Rattle.scheme.specs.Scheme.{total, valid_of, widths_of, classes, padded, format_of}
use Rattle.scheme.specs.declared.PagingScheme.{PagingScheme}
use Rattle.bits.proofs.Bools.{and_right}
use Rattle.scheme.proofs.Widths.{valid}
use Rattle.scheme.proofs.Classes.{length_classes, sv32_valid}
use Rattle.walk.specs.Answer.{marked_by}
use Rattle.walk.specs.declared.Access.{Access}
use Rattle.walk.specs.declared.LeafAt.{LeafAt}
use Rattle.entry.specs.Entry.{matches_of}
use Rattle.entry.specs.declared.TlbEntry.{TlbEntry}
use Rattle.entry.specs.declared.TlbConfig.{TlbConfig}
use Rattle.tlb.specs.State.{tlb_new, tlb_set_scheme, tlb_install, tlb_fits}
use Rattle.tlb.specs.declared.Tlb.{Tlb}
use Rattle.caches.specs.Terms.{Said, said_by, Holds, EntryOf}
use Rattle.caches.proofs.Claims.{new_fits, scheme_fits, new_holds, scheme_holds, install_holds, flush_holds, flush_vaddr_holds}
use Rattle.state.specs.State.{with_tlb, state_new, with_scheme, alike, fit_of}
use Rattle.access.specs.Translate.{tallied, vpn_of, made_of}
use Rattle.mmu.specs.Calls.{mode_known, room_for, new_of, set_scheme_of, flush_of, flush_vaddr_of, translate_of, translate_ram}
use Rattle.state.specs.declared.Mmu.{Mmu}
use Rattle.access.specs.declared.Served.{Served}
use Rattle.session.specs.Session.{switched, settings_said, start_of}
use Rattle.session.specs.declared.Settings.{Settings}
use Rattle.order.specs.Runs.{settings_of, heard_of}
use Rattle.order.specs.Plain.{verdict_heard}
use Rattle.order.specs.Claims.{Ready}
use Rattle.order.proofs.Machine.{Decides, Left, Step}
use Rattle.order.proofs.Machine as machine
use Rattle.order.proofs.Serves.{Consults, counted_in, filled, Case, Passes, Hits, Forbids, Leads, Ends, translate_case}
use Rattle.order.proofs.Fit.{flushed, flushed_at}

-- ---- what a state's valid entries say

abbrev pub HoldsIn : (Said → Type 0) → Mmu → Type 0
HoldsIn P m = Holds P m.tlb

pub holds_imp : (P Q : Said → Type 0) (m : Mmu) → ((e : Said) → P e → Q e) → HoldsIn P m → HoldsIn Q m
holds_imp P Q m f h i l v = f _ (h i l v)

holds_tallied : (P : Said → Type 0) (h n f : ℕ) (t : Tlb) → Holds P t → Holds P (tallied h n f t)
unfolding tallied
holds_tallied P h n f t w = w

-- ---- the start

alike_self : (xs : List ℕ) → alike xs xs ≡ true
unfolding alike
alike_self [] = refl
alike_self (x ∷ xs) = rw (eq-eqb x x refl) (alike_self xs)

-- a new state is fit, if its entries have room
pub new_fit : (config : TlbConfig) → room_for config ≡ true → fit_of (state_new config) ≡ true
unfolding fit_of state_new tlb_new classes total alike
new_fit config room = rw (new_fits config (leb-true _ 128 room), sv32_valid)

-- and a fit state stays so under another scheme
pub adopted_fit : (m : Mmu) (s : PagingScheme) → valid_of s ≡ true → length s.level_bits ≡ 4 → tlb_fits m.tlb ≡ true → fit_of (with_scheme m s) ≡ true
unfolding fit_of with_scheme tlb_set_scheme
adopted_fit m s v four t =
    let ws = widths_of s in
    let few : s.levels ≤ length s.level_bits = rw four (valid s v).four in
    let long : length (classes ws) ≡ s.levels = length_classes ws ∙ length-take-le s.levels s.level_bits few in
    rw (
      v,
      scheme_fits m.tlb s.offset_bits (padded (classes ws)) s.levels t,
      eq-eqb s.offset_bits s.offset_bits refl,
      eq-eqb s.levels s.levels refl,
      take_at (classes ws) _ s.levels long,
    )
    (alike_self (classes ws))

module _ (s : Settings) (config : TlbConfig) (r : Ready s) (room : room_for config ≡ true) where
  -- nothing of the set-up is refused
  start_is : start_of config s ≡ switched (with_scheme (state_new config) s.scheme) s
  unfolding start_of settings_said on_grant new_of set_scheme_of
  start_is = rw (room, new_fit config room, r.valid)

  pub start_settings : settings_of (start_of config s) ≡ s
  unfolding with_scheme
  start_settings = rw start_is

  pub start_holds : (P : Said → Type 0) → HoldsIn P (start_of config s)
  unfolding with_scheme state_new
  start_holds P = rw start_is (scheme_holds P (tlb_new config) _ _ _ (new_holds P config))

  pub start_fit : fit_of (start_of config s) ≡ true
  unfolding fit_of state_new
  start_fit = rw start_is (adopted_fit (state_new config) s.scheme r.valid r.four (new_fits config (leb-true _ 128 room)))

-- ---- an access

module _ (m : Mmu) (q : Access) (ram : List ℕ) where
  module _ (t : Tlb) (e : TlbEntry) (c : Consults m q t (Some e)) where
    entry : EntryOf m.tlb (vpn_of m q) (asid_of m.scheme m.satp.raw) e
    entry = (c.found e refl).0

    entry_holds : (P : Said → Type 0) → HoldsIn P m → P (said_by e)
    entry_holds P w = subst P (sym entry.said) (w entry.at entry.below entry.valid)

    entry_decides : Decides (settings_of m) (said_by e) q
    unfolding matches_of
    entry_decides = record {
      page = eqb-true _ _ (and_right (e.valid && (e.global || eqb e.asid (asid_of m.scheme m.satp.raw))) _ entry.same);
      ready = (c.found e refl).1;
    }

  filled_holds : (P : Said → Type 0) (l : LeafAt) (t : Tlb) → P (said_by (made_of m q l)) → Holds P t → Holds P (filled m q l t)
  filled_holds P l t p w = go m.tlb_enabled
    where
      go : (b : Bool) → Holds P (cond b (tlb_install (tallied 0 1 0 t) (made_of m q l)) (tallied 0 1 0 t))
      go true = install_holds P (tallied 0 1 0 t) (made_of m q l) p (holds_tallied P 0 1 0 t w)
      go false = holds_tallied P 0 1 0 t w

  case_steps : (v : Served) (ram' : List ℕ) → Case m q ram v ram' → Step (settings_of m) HoldsIn q m ram v.mmu ram' (heard_of v.said.outcome)
  unfolding verdict_heard made_of
  case_steps v ram' (Passes h) = machine.Passes h (λ P w. w) refl refl
  case_steps v ram' (Hits h t e k c p) =
      machine.Finds h (said_by e) (entry_holds t e c) (entry_decides t e c) (λ P w. holds_tallied P 1 0 0 t (c.keeps P w)) refl (rw p)
  case_steps v ram' (Forbids h t e k c p) =
      machine.Finds h (said_by e) (entry_holds t e c) (entry_decides t e c) (λ P w. holds_tallied P 0 0 1 t (c.keeps P w)) refl (rw p)
  case_steps v ram' (Leads h t k c l e) =
      machine.Walks h
      (subst (λ (x : Result LeafAt Fault). Left (settings_of m) HoldsIn q x m (with_tlb m (filled m q l t))) (sym e) (λ P p w. filled_holds P l t p (c.keeps P w)))
      (ap (marked_by (format_of m.scheme) q.kind ram) (sym e))
      (ap (verdict_heard (format_of m.scheme) q) (sym e))
  case_steps v ram' (Ends h t k c stop e) =
      machine.Walks h
      (subst (λ (x : Result LeafAt Fault). Left (settings_of m) HoldsIn q x m (counted_in m 0 1 1 t)) (sym e) (λ P w. holds_tallied P 0 1 1 t (c.keeps P w)))
      (ap (marked_by (format_of m.scheme) q.kind ram) (sym e))
      (ap (verdict_heard (format_of m.scheme) q) (sym e))

  pub translate_steps : fit_of m ≡ true → mode_known m.scheme m.satp.raw ≡ true
      → Step (settings_of m) HoldsIn q m ram (translate_of m q ram).mmu (translate_ram m q ram) (heard_of (translate_of m q ram).said.outcome)
  translate_steps fit known = case_steps _ _ (translate_case m q ram fit known)

-- ---- a flush

module _ (m : Mmu) (fit : fit_of m ≡ true) (P : Said → Type 0) (w : HoldsIn P m) where
  pub flush_keeps : HoldsIn P (flush_of m).mmu
  flush_keeps = rw (flushed m fit) (flush_holds P m.tlb w)

  pub flush_at_keeps : (va : ℕ) → HoldsIn P (flush_vaddr_of m va).mmu
  flush_at_keeps va = rw (flushed_at m fit va) (flush_vaddr_holds P m.tlb va w)
