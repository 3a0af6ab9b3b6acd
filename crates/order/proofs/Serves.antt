-- The cases of `translate` on a fit state: the access passes by, or the TLB is consulted and decides it or not; with all that the rest of
-- the proofs needs of the TLB then.
use Rattle.std.specs.Prelude.{Err, None, Ok, Option, Result, Some}
use Rattle.walk.specs.declared.Fault.{Fault}
use Prim.Native.Nat.{ℕ, ◌+◌}
use mathlib.Core.Path.{◌≡◌, refl, sym, subst}
use mathlib.Core.Bool.{Bool, true, false, cond}
use mathlib.Core.List.{List}
use Rattle.pte.specs.Entry.{ppn_of}
use Rattle.scheme.specs.Satp.{asid_of}
use Rattle.scheme.specs.Scheme.{valid_of, format_of}
use Rattle.scheme.specs.declared.refusal.Refusal.TheVariants.{BadMode}
use Rattle.bits.proofs.Bools.{and_left, and_right}
use Rattle.walk.specs.Answer.{marked_by, physical_of, words_of}
use Rattle.walk.specs.declared.Access.{Access}
use Rattle.walk.specs.declared.LeafAt.{LeafAt}
use Rattle.entry.specs.declared.TlbEntry.{TlbEntry}
use Rattle.tlb.specs.Cache.{Cache, Shape, on_slot, touch_at, find_from, probe_in}
use Rattle.tlb.specs.State.{shape_of, cache_of, tlb_probe, tlb_install, tlb_fits}
use Rattle.tlb.specs.declared.Tlb.{Tlb}
use Rattle.tlb.proofs.Fitness.{tlb_fit}
use Rattle.caches.specs.Terms.{Said, Holds, SameScheme, EntryOf}
use Rattle.caches.proofs.Claims.{probe_fits, probe_same, probe_finds, probe_holds}
use Rattle.state.specs.State.{with_tlb, scheme_held, fit_of}
use Rattle.access.specs.Translate.{bypassed, tallied, vpn_of, must_walk, decides, consult_of, ok_at, fault_of, passed_of, entry_permits, found_served}
use Rattle.access.specs.Translate.{made_of, walk_served, miss_walk, look_served, look_ram, served_of, served_ram}
use Rattle.mmu.specs.Calls.{mode_known, translate_of, translate_ram}
use Rattle.mmu.specs.Calls as mmu
use Rattle.state.specs.declared.Mmu.{Mmu}
use Rattle.access.specs.declared.Consulted.{Consulted}
use Rattle.access.specs.declared.Served.{Served}

-- ---- what fitness says

module _ (m : Mmu) (fit : fit_of m ≡ true) where
  pub fit_valid : valid_of m.scheme ≡ true
  unfolding fit_of
  fit_valid = and_left _ _ fit

  pub tlb_fits_lem : tlb_fits m.tlb ≡ true
  unfolding fit_of
  tlb_fits_lem = and_left _ _ (and_right (valid_of m.scheme) _ fit)

  pub fit_held : scheme_held m ≡ true
  unfolding fit_of
  fit_held = and_right (tlb_fits m.tlb) _ (and_right (valid_of m.scheme) _ fit)

-- ---- the TLB, consulted

-- the TLB after it was asked, and what it said
pub record Consults (m : Mmu) (q : Access) (t : Tlb) (k : Option TlbEntry) : Type 1 where
  pub same : SameScheme m.tlb t
  pub evictions : t.stats.evictions ≡ m.tlb.stats.evictions
  pub fits : tlb_fits t ≡ true
  pub keeps : (P : Said → Type 0) → Holds P m.tlb → Holds P t
  pub found : (e : TlbEntry) → k ≡ Some e → EntryOf m.tlb (vpn_of m q) (asid_of m.scheme m.satp.raw) e × (must_walk e q ≡ false)

-- an entry that decides was found, and need not walk
decided : (q : Access) (k : Option TlbEntry) (e : TlbEntry) → decides q k ≡ Some e → (k ≡ Some e) × (must_walk e q ≡ false)
decided q None e h = absurd cc
decided q (Some x) e h = go (must_walk x q) refl h
  where
    go : (b : Bool) → must_walk x q ≡ b → cond b None (Some x) ≡ Some e → (Some x ≡ Some e) × (must_walk e q ≡ false)
    go true w k = absurd cc
    go false w k = let y : x ≡ e = cc in (k, rw y at w)

-- a probe evicts nothing
slot_evicts : (s : Option ℕ) (sh : Shape) (c : Cache) → (on_slot s (λ i. touch_at sh.policy i c) (record { lookup = None; cache = c })).cache.evictions ≡ c.evictions
unfolding touch_at
slot_evicts (Some i) sh c = refl
slot_evicts None sh c = refl

probe_evicts : (t : Tlb) (vpn asid : ℕ) → (tlb_probe t vpn asid).tlb.stats.evictions ≡ t.stats.evictions
unfolding tlb_probe probe_in
probe_evicts t vpn asid = slot_evicts (find_from (shape_of t) (shape_of t).classes vpn asid t.entries) (shape_of t) (cache_of t)

module _ (m : Mmu) (q : Access) (fit : fit_of m ≡ true) where
  abbrev asid : ℕ
  asid = asid_of m.scheme m.satp.raw

  probed : Consults m q (tlb_probe m.tlb (vpn_of m q) asid).tlb (decides q (tlb_probe m.tlb (vpn_of m q) asid).lookup)
  probed = record {
    same = probe_same m.tlb (vpn_of m q) asid;
    evictions = probe_evicts m.tlb (vpn_of m q) asid;
    fits = probe_fits m.tlb (vpn_of m q) asid (tlb_fits_lem m fit);
    keeps = λ P h. probe_holds P m.tlb (vpn_of m q) asid h;
    found = λ e h.
        let d = decided q (tlb_probe m.tlb (vpn_of m q) asid).lookup e h in
        (probe_finds m.tlb (vpn_of m q) asid e (tlb_fit m.tlb (tlb_fits_lem m fit)).geo d.0, d.1);
  }

  unprobed : Consults m q m.tlb None
  unprobed = record {
    same = record {
      frame = record { config = refl; count = refl; sets = refl; slots = refl; hands = refl };
      offset = refl;
      masks = refl;
      classes = refl;
      hits = refl;
      misses = refl;
      faults = refl;
    };
    evictions = refl;
    fits = tlb_fits_lem m fit;
    keeps = λ P h. h;
    found = λ e h. absurd cc;
  }

-- ---- the cases

taken : {A : Type 0} (b : Bool) (x y : A) → b ≡ true → cond b x y ≡ x
taken true x y e = refl
taken false x y e = absurd cc

left_out : {A : Type 0} (b : Bool) (x y : A) → b ≡ false → cond b x y ≡ y
left_out false x y e = refl
left_out true x y e = absurd cc

-- the state with a TLB and tallies given
abbrev pub counted_in : Mmu → ℕ → ℕ → ℕ → Tlb → Mmu
counted_in m hits misses faults t = with_tlb m (tallied hits misses faults t)

-- the TLB after a walk that came to a leaf
abbrev pub filled : Mmu → Access → LeafAt → Tlb → Tlb
filled m q l t = cond m.tlb_enabled (tlb_install (tallied 0 1 0 t) (made_of m q l)) (tallied 0 1 0 t)

-- what is served: by an entry that permits, by one that forbids, by a walk to a leaf, by a walk that faults
module _ (m : Mmu) (q : Access) (t : Tlb) where
  abbrev pub hit : TlbEntry → Served
  hit e = record {
    said = ok_at 0 (physical_of (format_of m.scheme) e.ppn (m.scheme.offset_bits + e.mask_bits) q.vaddr) t.config.hit_latency;
    mmu = counted_in m 1 0 0 t;
  }

  abbrev pub forbidden : Served
  forbidden = record { said = fault_of 0 q; mmu = counted_in m 0 0 1 t }

  abbrev pub led : LeafAt → Served
  led l = record {
    said = ok_at (words_of (format_of m.scheme) q.vaddr (Ok l)) (physical_of (format_of m.scheme) (ppn_of l.raw) l.shift q.vaddr) t.config.miss_penalty;
    mmu = with_tlb m (filled m q l t);
  }

  abbrev pub stopped : Fault → Served
  stopped stop = record { said = fault_of (words_of (format_of m.scheme) q.vaddr (Err stop)) q; mmu = counted_in m 0 1 1 t }

pub data Case (m : Mmu) (q : Access) (ram : List ℕ) : Served → List ℕ → Type 1 where
  Passes : bypassed m q ≡ true → Case m q ram (passed_of m q) ram
  -- an entry decides the access, and permits or forbids it
  Hits : bypassed m q ≡ false → (t : Tlb) (e : TlbEntry) → consult_of m q ≡ record { lookup = Some e; mmu = with_tlb m t } → Consults m q t (Some e)
      → entry_permits e q ≡ true
      → Case m q ram (hit m q t e) ram
  Forbids : bypassed m q ≡ false → (t : Tlb) (e : TlbEntry) → consult_of m q ≡ record { lookup = Some e; mmu = with_tlb m t } → Consults m q t (Some e)
      → entry_permits e q ≡ false → Case m q ram (forbidden m q t) ram
  -- no entry decides it, and the walk comes to a leaf or faults
  Leads : bypassed m q ≡ false → (t : Tlb) → consult_of m q ≡ record { lookup = None; mmu = with_tlb m t } → Consults m q t None
      → (l : LeafAt) → miss_walk m q ram ≡ Ok l
      → Case m q ram (led m q t l) (marked_by (format_of m.scheme) q.kind ram (Ok l))
  Ends : bypassed m q ≡ false → (t : Tlb) → consult_of m q ≡ record { lookup = None; mmu = with_tlb m t } → Consults m q t None
      → (stop : Fault) → miss_walk m q ram ≡ Err stop
      → Case m q ram (stopped m q t stop) ram

module _ (m : Mmu) (q : Access) (ram : List ℕ) (fit : fit_of m ≡ true) where
  module _ (on : bypassed m q ≡ false) where
    found : (t : Tlb) (e : TlbEntry) → consult_of m q ≡ record { lookup = Some e; mmu = with_tlb m t } → Consults m q t (Some e)
        → Case m q ram (found_served (with_tlb m t) e q) ram
    unfolding found_served
    found t e h c = go (entry_permits e q) refl
      where
        go : (b : Bool) → entry_permits e q ≡ b → Case m q ram (cond b (hit m q t e) (forbidden m q t)) ram
        go true p = Hits on t e h c p
        go false p = Forbids on t e h c p

    walked : (t : Tlb) → consult_of m q ≡ record { lookup = None; mmu = with_tlb m t } → Consults m q t None
        → (v : Result LeafAt Fault) → miss_walk m q ram ≡ v → Case m q ram (walk_served (with_tlb m t) q v) (marked_by (format_of m.scheme) q.kind ram v)
    unfolding walk_served made_of
    walked t h c (Ok l) e = Leads on t h c l e
    walked t h c (Err stop) e = Ends on t h c stop e

    by_lookup : (t : Tlb) (k : Option TlbEntry) → consult_of m q ≡ record { lookup = k; mmu = with_tlb m t } → Consults m q t k
        → Case m q ram (look_served (with_tlb m t) q ram k) (look_ram (with_tlb m t) q ram k)
    by_lookup t (Some e) h c = found t e h c
    by_lookup t None h c = walked t h c (miss_walk m q ram) refl

    by_consult : (t : Tlb) (k : Option TlbEntry) → consult_of m q ≡ record { lookup = k; mmu = with_tlb m t } → Consults m q t k
        → Case m q ram (look_served (consult_of m q).mmu q ram (consult_of m q).lookup) (look_ram (consult_of m q).mmu q ram (consult_of m q).lookup)
    by_consult t k h c =
        subst (λ (x : Consulted). Case m q ram (look_served x.mmu q ram x.lookup) (look_ram x.mmu q ram x.lookup)) (sym h) (by_lookup t k h c)

    looked : (b : Bool) → m.tlb_enabled ≡ b
        → Case m q ram (look_served (consult_of m q).mmu q ram (consult_of m q).lookup) (look_ram (consult_of m q).mmu q ram (consult_of m q).lookup)
    unfolding consult_of
    looked true e = by_consult _ _ (taken m.tlb_enabled _ _ e) (probed m q fit)
    looked false e = by_consult m.tlb None (left_out m.tlb_enabled _ _ e) (unprobed m q fit)

  served : (b : Bool) → bypassed m q ≡ b → Case m q ram (served_of m q ram) (served_ram m q ram)
  unfolding served_of served_ram
  served true h = rw h (Passes h)
  served false h = rw h (looked h m.tlb_enabled refl)

  pub translate_case : mode_known m.scheme m.satp.raw ≡ true → Case m q ram (translate_of m q ram) (translate_ram m q ram)
  unfolding translate_of translate_ram
  translate_case known = rw (fit, known) (served (bypassed m q) refl)

-- and whether it is refused with 10
pub data Turn (m : Mmu) (q : Access) (ram : List ℕ) : Served → List ℕ → Type 1 where
  Refuses : mode_known m.scheme m.satp.raw ≡ false → Turn m q ram (mmu.stopped BadMode m) ram
  Serves : mode_known m.scheme m.satp.raw ≡ true → (v : Served) (ram' : List ℕ) → Case m q ram v ram' → Turn m q ram v ram'

pub translate_turn : (m : Mmu) (q : Access) (ram : List ℕ) → fit_of m ≡ true → Turn m q ram (translate_of m q ram) (translate_ram m q ram)
unfolding translate_of translate_ram
translate_turn m q ram fit = go (mode_known m.scheme m.satp.raw) refl
  where
    go : (b : Bool) → mode_known m.scheme m.satp.raw ≡ b → Turn m q ram (translate_of m q ram) (translate_ram m q ram)
    go true e = Serves e _ _ (translate_case m q ram fit e)
    go false e = rw (fit, e) (Refuses e)
