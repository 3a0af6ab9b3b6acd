-- Fitness is kept by every event, the settings stay, and nothing is refused but accesses with 10.
use Rattle.std.specs.Prelude.{Ok}
use Prim.Native.Nat.{ℕ, ◌≤◌}
use mathlib.Core.Path.{◌≡◌, refl, sym, ap, subst, ◌∙◌}
use mathlib.Core.Bool.{Bool, true, false, cond}
use mathlib.Core.List.{List, [], ◌∷◌, map}
use native.Mathlib.Omega.{arith}
use Rattle.scheme.specs.Satp.{root_of}
use Rattle.scheme.specs.Scheme.{is_sv39, bought_of}
use Rattle.scheme.specs.declared.PagingScheme.{PagingScheme}
use Rattle.scheme.specs.declared.refusal.Refusal.{Refusal}
use Rattle.scheme.specs.declared.refusal.Refusal.TheVariants.{BadMode}
use Rattle.scheme.proofs.Widths.{valid, not_sv39}
use Rattle.walk.specs.declared.Access.{Access}
use Rattle.walk.specs.declared.LeafAt.{LeafAt}
use Rattle.tlb.specs.State.{tlb_fits, tlb_install, tlb_flush, tlb_flush_vaddr}
use Rattle.tlb.specs.declared.Tlb.{Tlb}
use Rattle.caches.specs.Terms.{SameScheme}
use Rattle.caches.proofs.Claims.{install_fits, install_same, flush_fits, flush_same, flush_vaddr_fits, flush_vaddr_same}
use Rattle.state.specs.State.{with_tlb, fit_of}
use Rattle.access.specs.Translate.{tallied, made_of, miss_walk}
use Rattle.mmu.specs.Calls.{mode_known, flush_of, flush_vaddr_of}
use Rattle.mmu.proofs.Refusing.{known_01, known_39}
use Rattle.state.specs.declared.Mmu.{Mmu}
use Rattle.access.specs.declared.Served.{Served}
use Rattle.session.specs.Session.{step_mmu, step_ram, end_mmu}
use Rattle.session.specs.declared.Settings.{Settings}
use Rattle.session.specs.declared.Event.{Event}
use Rattle.session.specs.declared.Event.TheVariants.{Translate, Flush, FlushAt}
use Rattle.order.specs.Claims.{ModeGiven}
use Rattle.order.specs.Runs.{settings_of, accesses, outcome_refusals, refused_by, refusals}
use Rattle.order.proofs.Pages.{shift_within}
use Rattle.order.proofs.Serves.{fit_valid, tlb_fits_lem, fit_held, filled, Case, Passes, Hits, Forbids, Leads, Ends, translate_case, Turn, Refuses, Serves, translate_turn}

-- ---- a TLB that may take the place of m's

pub record Sits (m : Mmu) (t : Tlb) : Type 0 where
  pub fits : tlb_fits t ≡ true
  pub offset : t.offset_bits ≡ m.tlb.offset_bits
  pub masks : t.superpage_masks ≡ m.tlb.superpage_masks
  pub classes : t.mask_count ≡ m.tlb.mask_count

sits_same : (m : Mmu) (t u : Tlb) → Sits m t → SameScheme t u → tlb_fits u ≡ true → Sits m u
sits_same m t u s e f = record { fits = f; offset = e.offset ∙ s.offset; masks = e.masks ∙ s.masks; classes = e.classes ∙ s.classes }

sits_tallied : (m : Mmu) (t : Tlb) (h n f : ℕ) → Sits m t → Sits m (tallied h n f t)
unfolding tallied tlb_fits
sits_tallied m t h n f s = record { fits = s.fits; offset = s.offset; masks = s.masks; classes = s.classes }

module _ (m : Mmu) (fit : fit_of m ≡ true) where
  sits_self : Sits m m.tlb
  sits_self = record { fits = tlb_fits_lem m fit; offset = refl; masks = refl; classes = refl }

  pub fit_with : (t : Tlb) → Sits m t → fit_of (with_tlb m t) ≡ true
  unfolding fit_of
  fit_with t s = rw (fit_valid m fit, s.fits, s.offset, s.masks, s.classes) (fit_held m fit)

  -- ---- an access

  module _ (q : Access) (ram : List ℕ) where
    -- a leaf of a valid scheme has a class that fits
    class_fits : (l : LeafAt) → miss_walk m q ram ≡ Ok l → (made_of m q l).mask_bits ≤ 19
    unfolding made_of
    class_fits l e =
        omega (arith, shift_within m.scheme (root_of m.scheme m.satp.raw) ram q l e (fit_valid m fit), (valid m.scheme (fit_valid m fit)).offset_low)

    sits_filled : (l : LeafAt) (t : Tlb) → miss_walk m q ram ≡ Ok l → Sits m t → Sits m (filled m q l t)
    sits_filled l t e s = go m.tlb_enabled
      where
        counted : Sits m (tallied 0 1 0 t)
        counted = sits_tallied m t 0 1 0 s

        go : (b : Bool) → Sits m (cond b (tlb_install (tallied 0 1 0 t) (made_of m q l)) (tallied 0 1 0 t))
        go true = sits_same m _ _ counted (install_same _ (made_of m q l)) (install_fits _ (made_of m q l) (class_fits l e) counted.fits)
        go false = counted

    consulted : (t : Tlb) → SameScheme m.tlb t → tlb_fits t ≡ true → Sits m t
    consulted t e f = sits_same m m.tlb t sits_self e f

    case_fit : (v : Served) (ram' : List ℕ) → Case m q ram v ram' → fit_of v.mmu ≡ true
    case_fit v ram' (Passes h) = fit
    case_fit v ram' (Hits h t e k c p) = fit_with _ (sits_tallied m t 1 0 0 (consulted t c.same c.fits))
    case_fit v ram' (Forbids h t e k c p) = fit_with _ (sits_tallied m t 0 0 1 (consulted t c.same c.fits))
    case_fit v ram' (Leads h t k c l e) = fit_with _ (sits_filled l t e (consulted t c.same c.fits))
    case_fit v ram' (Ends h t k c stop e) = fit_with _ (sits_tallied m t 0 1 1 (consulted t c.same c.fits))

    case_settings : (v : Served) (ram' : List ℕ) → Case m q ram v ram' → settings_of v.mmu ≡ settings_of m
    case_settings v ram' (Passes h) = refl
    case_settings v ram' (Hits h t e k c p) = refl
    case_settings v ram' (Forbids h t e k c p) = refl
    case_settings v ram' (Leads h t k c l e) = refl
    case_settings v ram' (Ends h t k c stop e) = refl

    case_granted : (v : Served) (ram' : List ℕ) → Case m q ram v ram' → (rest : List Refusal) → outcome_refusals v.said.outcome rest ≡ rest
    case_granted v ram' (Passes h) rest = refl
    case_granted v ram' (Hits h t e k c p) rest = refl
    case_granted v ram' (Forbids h t e k c p) rest = refl
    case_granted v ram' (Leads h t k c l e) rest = refl
    case_granted v ram' (Ends h t k c stop e) rest = refl

    turn_fit : (v : Served) (ram' : List ℕ) → Turn m q ram v ram' → fit_of v.mmu ≡ true
    turn_fit v ram' (Refuses k) = fit
    turn_fit v ram' (Serves k u r c) = case_fit u r c

    turn_settings : (v : Served) (ram' : List ℕ) → Turn m q ram v ram' → settings_of v.mmu ≡ settings_of m
    turn_settings v ram' (Refuses k) = refl
    turn_settings v ram' (Serves k u r c) = case_settings u r c

    turn_refused : (v : Served) (ram' : List ℕ) → Turn m q ram v ram' → mode_known m.scheme m.satp.raw ≡ false
        → (rest : List Refusal) → outcome_refusals v.said.outcome rest ≡ BadMode ∷ rest
    turn_refused v ram' (Refuses k) e rest = refl
    turn_refused v ram' (Serves k u r c) e rest = absurd cc

  -- ---- an event

  pub flushed : (flush_of m).mmu ≡ with_tlb m (tlb_flush m.tlb)
  unfolding flush_of
  flushed = rw fit

  pub flushed_at : (va : ℕ) → (flush_vaddr_of m va).mmu ≡ with_tlb m (tlb_flush_vaddr m.tlb va)
  unfolding flush_vaddr_of
  flushed_at va = rw fit

  module _ (ram : List ℕ) where
    pub event_fit : (e : Event) → fit_of (step_mmu e m ram) ≡ true
    event_fit (Translate q) = turn_fit q ram _ _ (translate_turn m q ram fit)
    event_fit Flush = rw flushed (fit_with _ (sits_same m _ _ sits_self (flush_same m.tlb) (flush_fits m.tlb (tlb_fits_lem m fit))))
    event_fit (FlushAt va) =
        rw (flushed_at va) (fit_with _ (sits_same m _ _ sits_self (flush_vaddr_same m.tlb va) (flush_vaddr_fits m.tlb va (tlb_fits_lem m fit))))

    pub event_settings : (e : Event) → settings_of (step_mmu e m ram) ≡ settings_of m
    event_settings (Translate q) = turn_settings q ram _ _ (translate_turn m q ram fit)
    event_settings Flush = rw flushed
    event_settings (FlushAt va) = rw (flushed_at va)

    -- the settings stay, and with them the mode
    pub event_mode : (e : Event) {b : Bool} → mode_known m.scheme m.satp.raw ≡ b → mode_known (step_mmu e m ram).scheme (step_mmu e m ram).satp.raw ≡ b
    event_mode e {b} h = subst (λ (x : Settings). mode_known x.scheme x.satp ≡ b) (sym (event_settings e)) h

    event_granted : mode_known m.scheme m.satp.raw ≡ true → (e : Event) (rest : List Refusal) → refused_by e m ram rest ≡ rest
    unfolding refused_by flush_of flush_vaddr_of
    event_granted known (Translate q) rest = case_granted q ram _ _ (translate_case m q ram fit known) rest
    event_granted known Flush rest = rw fit
    event_granted known (FlushAt va) rest = rw fit

    access_refused : mode_known m.scheme m.satp.raw ≡ false → (q : Access) (rest : List Refusal) → refused_by (Translate q) m ram rest ≡ BadMode ∷ rest
    unfolding refused_by
    access_refused h q rest = turn_refused q ram _ _ (translate_turn m q ram fit) h rest

    flush_granted : (rest : List Refusal) → refused_by Flush m ram rest ≡ rest
    unfolding refused_by flush_of
    flush_granted rest = rw fit

    flush_at_granted : (va : ℕ) (rest : List Refusal) → refused_by (FlushAt va) m ram rest ≡ rest
    unfolding refused_by flush_vaddr_of
    flush_at_granted va rest = rw fit

-- ---- a run

pub run_granted_lem : (es : List Event) (m : Mmu) (ram : List ℕ) → fit_of m ≡ true → mode_known m.scheme m.satp.raw ≡ true → refusals es m ram ≡ []
unfolding refusals
run_granted_lem [] m ram fit known = refl
run_granted_lem (e ∷ es) m ram fit known =
    event_granted m fit ram known e _ ∙ run_granted_lem es (step_mmu e m ram) (step_ram e m ram) (event_fit m fit ram e) (event_mode m fit ram e known)

pub run_refused : (es : List Event) (m : Mmu) (ram : List ℕ) → fit_of m ≡ true → mode_known m.scheme m.satp.raw ≡ false
    → refusals es m ram ≡ map (λ q. BadMode) (accesses es)
unfolding refusals accesses
run_refused [] m ram fit h = refl
run_refused (Translate q ∷ es) m ram fit h =
    access_refused m fit ram h q _
    ∙ ap (λ (rest : List Refusal). BadMode ∷ rest) (run_refused es _ _ (event_fit m fit ram (Translate q)) (event_mode m fit ram (Translate q) h))
run_refused (Flush ∷ es) m ram fit h = flush_granted m fit ram _ ∙ run_refused es _ _ (event_fit m fit ram Flush) (event_mode m fit ram Flush h)
run_refused (FlushAt va ∷ es) m ram fit h =
    flush_at_granted m fit ram va _ ∙ run_refused es _ _ (event_fit m fit ram (FlushAt va)) (event_mode m fit ram (FlushAt va) h)

pub run_fit : (es : List Event) (m : Mmu) (ram : List ℕ) → fit_of m ≡ true → fit_of (end_mmu es m ram) ≡ true
unfolding end_mmu
run_fit [] m ram fit = fit
run_fit (e ∷ es) m ram fit = run_fit es (step_mmu e m ram) (step_ram e m ram) (event_fit m fit ram e)

-- ---- the mode, by its number

-- document 01's schemes have no other
pub mode_01 : (s : PagingScheme) (satp : ℕ) → bought_of s ≡ true → ModeGiven s satp
mode_01 s satp b e = let n = not_sv39 s b in absurd cc

pub mode_known_lem : (s : PagingScheme) (satp : ℕ) → ModeGiven s satp → mode_known s satp ≡ true
mode_known_lem s satp g = go (is_sv39 s) refl
  where
    go : (b : Bool) → is_sv39 s ≡ b → mode_known s satp ≡ true
    go true e = known_39 s satp e (g e)
    go false e = known_01 s satp e
