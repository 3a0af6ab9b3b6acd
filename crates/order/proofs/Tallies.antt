-- The tallies along a run: each access adds to them what specs/Tallies.antt counts, mod 2^64.
use Rattle.std.specs.Prelude.{None, Option, Some, is_none, is_err}
use Prim.Native.Nat.{ℕ, ◌+◌, ◌%◌, ◌^◌}
use mathlib.Core.Path.{◌≡◌, refl, sym, ap, subst, ◌∙◌}
use mathlib.Core.Bool.{Bool, true, false, cond, ◌&&◌, and-false}
use mathlib.Core.List.{List, [], ◌∷◌}
use native.Mathlib.Nat.{add-mod, mod-mod}
use native.Mathlib.Omega.{arith}
use Rattle.walk.specs.declared.Access.{Access}
use Rattle.walk.specs.declared.LeafAt.{LeafAt}
use Rattle.entry.specs.Entry.{is_clock}
use Rattle.entry.specs.declared.TlbEntry.{TlbEntry}
use Rattle.tlb.specs.declared.TlbStats.{TlbStats}
use Rattle.entry.specs.declared.ReplacementPolicy.{ReplacementPolicy}
use Rattle.slots.specs.Slots.{wanted_of, first_in, quiet_in}
use Rattle.tlb.specs.Cache.{Cache, store_at, evicted, clock_in, victim_in, on_slot, replace_in, install_new, set_of, start_of, slot_of, install_in, flush_in, flush_page_in}
use Rattle.tlb.specs.State.{ways_of, shape_of, cache_of, tlb_install, tlb_flush, tlb_flush_page, tlb_flush_vaddr}
use Rattle.tlb.specs.declared.Tlb.{Tlb}
use Rattle.state.specs.State.{with_tlb, fit_of}
use Rattle.mmu.specs.Calls.{mode_known}
use Rattle.access.specs.Translate.{bypassed, tallied, consult_of, made_of, miss_walk}
use Rattle.state.specs.declared.Mmu.{Mmu}
use Rattle.access.specs.declared.Consulted.{Consulted}
use Rattle.access.specs.declared.Served.{Served}
use Rattle.session.specs.Session.{step_mmu, step_ram, end_mmu}
use Rattle.session.specs.declared.Event.{Event}
use Rattle.session.specs.declared.Event.TheVariants.{Translate, Flush, FlushAt}
use Rattle.order.specs.Tallies.{count_of, translated, permits, found_hit, forbids, found_fault, walks, walk_fault, takes_victim, leaf_victim, evicts}
use Rattle.order.specs.Claims.{Wraps, TalliesAddUp}
use Rattle.order.proofs.Serves.{Consults, filled, Case, Passes, Hits, Forbids, Leads, Ends, Turn, Refuses, Serves, translate_turn}
use Rattle.order.proofs.Fit.{flushed, flushed_at, event_fit}

-- ---- sums that wrap

wraps_mod : (a : ℕ) → Wraps (a % 2 ^ 64) a
wraps_mod a = mod-mod a (2 ^ 64)

wraps_add : (a b c d : ℕ) → Wraps a b → Wraps c d → Wraps (a + c) (b + d)
wraps_add a b c d p q =
    add-mod a c (2 ^ 64) ∙ ap (λ (x : ℕ). (x + c % 2 ^ 64) % 2 ^ 64) p ∙ ap (λ (x : ℕ). (b % 2 ^ 64 + x) % 2 ^ 64) q ∙ sym (add-mod b d (2 ^ 64))

wraps_is : (a b : ℕ) → a ≡ b → Wraps a b
wraps_is a b e = ap (λ (x : ℕ). x % 2 ^ 64) e

wraps_none : (a : ℕ) → Wraps a (a + 0)
wraps_none a = wraps_is a (a + 0) (omega arith)

abbrev one : Bool → ℕ
one b = cond b 1 0

-- hits, misses and faults on a found entry, after h hits and n misses
sum_accesses : (h n a b x y : ℕ) → a + b + x ≡ y → Wraps ((h + a) % 2 ^ 64 + (n + b) % 2 ^ 64 + x) (h + n + y)
sum_accesses h n a b x y e =
    let both = wraps_add ((h + a) % 2 ^ 64) (h + a) ((n + b) % 2 ^ 64) (n + b) (wraps_mod (h + a)) (wraps_mod (n + b)) in
    wraps_add ((h + a) % 2 ^ 64 + (n + b) % 2 ^ 64) (h + a + (n + b)) x x both refl
    ∙ wraps_is (h + a + (n + b) + x) (h + n + y) (omega arith)

sum_faults : (f a x y : ℕ) → a ≡ x + y → Wraps ((f + a) % 2 ^ 64) (f + x + y)
sum_faults f a x y e = wraps_mod (f + a) ∙ wraps_is (f + a) (f + x + y) (omega arith)

-- a step, and then the rest
then_accesses : (e c k t x m y : ℕ) → Wraps (e + c) (k + t) → Wraps (k + x) (m + y) → Wraps (e + (x + c)) (m + (y + t))
then_accesses e c k t x m y p q =
    wraps_is (e + (x + c)) (e + c + x) (omega arith)
    ∙ wraps_add (e + c) (k + t) x x p refl
    ∙ wraps_is (k + t + x) (k + x + t) (omega arith)
    ∙ wraps_add (k + x) (m + y) t t q refl
    ∙ wraps_is (m + y + t) (m + (y + t)) (omega arith)

then_counts : (e k c m x : ℕ) → Wraps e (k + c) → Wraps k (m + x) → Wraps e (m + (x + c))
then_counts e k c m x p q = p ∙ wraps_add k (m + x) c c q refl ∙ wraps_is (m + x + c) (m + (x + c)) (omega arith)

then_faults : (e k c d m x y : ℕ) → Wraps e (k + c + d) → Wraps k (m + x + y) → Wraps e (m + (x + c) + (y + d))
then_faults e k c d m x y p q =
    p
    ∙ wraps_is (k + c + d) (k + (c + d)) (omega arith)
    ∙ wraps_add k (m + x + y) (c + d) (c + d) q refl
    ∙ wraps_is (m + x + y + (c + d)) (m + (x + c) + (y + d)) (omega arith)

-- ---- an install counts an eviction where it takes a victim

victim_evicts : (p : ReplacementPolicy) (group start ways : ℕ) (c : Cache) → (victim_in p group start ways c).cache.evictions ≡ c.evictions
unfolding victim_in clock_in
victim_evicts p group start ways c = go (is_clock p)
  where
    go : (b : Bool) → (cond b (clock_in group start ways c) (record { at = quiet_in p c.counter start ways c.slots; cache = c })).cache.evictions ≡ c.evictions
    go true = refl
    go false = refl

module _ (t : Tlb) (e : TlbEntry) where
  abbrev first : ℕ
  first = start_of (shape_of t) e.vpn e.mask_bits

  abbrev group : ℕ
  group = set_of (shape_of t) e.vpn e.mask_bits

  abbrev policy : ReplacementPolicy
  policy = t.config.replacement

  new_evicts : (k : Option ℕ) → Wraps
      (on_slot k (λ i. store_at policy i e (cache_of t)) (replace_in policy group first (ways_of t) e (cache_of t))).evictions
      (t.stats.evictions + one (is_none k))
  unfolding replace_in store_at evicted
  new_evicts (Some i) = wraps_none t.stats.evictions
  new_evicts None = rw (victim_evicts policy group first (ways_of t) (cache_of t)) (wraps_mod (t.stats.evictions + 1))

  install_evicts : Wraps (tlb_install t e).stats.evictions (t.stats.evictions + one (takes_victim t e))
  unfolding tlb_install install_in install_new store_at takes_victim
  install_evicts = go (slot_of (shape_of t) e.vpn e.asid t.entries e.mask_bits)
    where
      free : Option ℕ
      free = first_in (wanted_of true 0 0) t.entries first (first + ways_of t)

      go : (k : Option ℕ) → Wraps
          (on_slot k (λ i. store_at policy i e (cache_of t)) (install_new policy group first (ways_of t) e (cache_of t))).evictions
          (t.stats.evictions + one (is_none k && is_none free))
      go (Some i) = wraps_none t.stats.evictions
      go None = new_evicts free

-- ---- an access

-- what an access adds to the tallies st, where the tests say so: translated, a hit, a walk, a fault on a found entry, a faulting walk, a victim
record Adds (st st' : TlbStats) (tr hi wk ff wf ev : Bool) : Type 0 where
  hits : Wraps st'.hits (st.hits + one hi)
  misses : Wraps st'.misses (st.misses + one wk)
  accesses : Wraps (st'.hits + st'.misses + one ff) (st.hits + st.misses + one tr)
  faults : Wraps st'.page_faults (st.page_faults + one ff + one wf)
  evictions : Wraps st'.evictions (st.evictions + one ev)

module _ (m : Mmu) (q : Access) (ram : List ℕ) (fit : fit_of m ≡ true) where
  -- the tests of an access that is refused, of one that is bypassed, and of one that is neither
  refused_off : mode_known m.scheme m.satp.raw ≡ false → translated m q ram ≡ false
  unfolding translated
  refused_off h = rw (fit, h)

  passes_off : bypassed m q ≡ true → translated m q ram ≡ false
  unfolding translated
  passes_off h = rw h (and-false (fit_of m && mode_known m.scheme m.satp.raw))

  on : mode_known m.scheme m.satp.raw ≡ true → bypassed m q ≡ false → translated m q ram ≡ true
  unfolding translated
  on known h = rw (fit, known, h)

  abbrev AddsBy : TlbStats → Bool → Bool → Bool → Bool → Bool → Bool → Type 0
  AddsBy st tr hi wk ff wf ev = Adds m.tlb.stats st tr hi wk ff wf ev

  abbrev Added : TlbStats → Type 0
  Added st =
      AddsBy st (translated m q ram) (found_hit m q ram) (walks m q ram) (found_fault m q ram) (walk_fault m q ram) (evicts m q ram)

  not_translated : translated m q ram ≡ false → Added m.tlb.stats
  unfolding found_hit found_fault walk_fault walks evicts
  not_translated off =
      let st = m.tlb.stats in
      rw off (record {
        hits = wraps_none st.hits;
        misses = wraps_none st.misses;
        accesses = refl;
        faults = wraps_is st.page_faults (st.page_faults + 0 + 0) (omega arith);
        evictions = wraps_none st.evictions;
      })

  -- by what the TLB said
  consulted : mode_known m.scheme m.satp.raw ≡ true → (st : TlbStats) (t : Tlb) (k : Option TlbEntry) → bypassed m q ≡ false → consult_of m q ≡ record { lookup = k; mmu = with_tlb m t }
      → AddsBy st true (permits q k) (is_none k) (forbids q k) (is_none k && is_err (miss_walk m q ram)) (is_none k && leaf_victim (with_tlb m t) q (miss_walk m q ram))
      → Added st
  unfolding found_hit found_fault walk_fault walks evicts
  consulted known st t k h e a =
      let v = miss_walk m q ram in
      rw (on known h)
      (subst (λ (x : Consulted). AddsBy st true (permits q x.lookup) (is_none x.lookup) (forbids q x.lookup) (is_none x.lookup && is_err v) (is_none x.lookup && leaf_victim x.mmu q v))
      (sym e) a)

  -- a TLB that was asked, with so many hits, misses and faults more
  counted : (t : Tlb) (k : Option TlbEntry) → Consults m q t k → (f : ℕ) (hi wk ff wf : Bool) → one hi + one wk + one ff ≡ 1 → f ≡ one ff + one wf
      → AddsBy (tallied (one hi) (one wk) f t).stats true hi wk ff wf false
  unfolding tallied
  counted t k c f hi wk ff wf p r =
      rw (← c.same.hits, ← c.same.misses, ← c.same.faults, ← c.evictions) (record {
        hits = wraps_mod (t.stats.hits + one hi);
        misses = wraps_mod (t.stats.misses + one wk);
        accesses = sum_accesses t.stats.hits t.stats.misses (one hi) (one wk) (one ff) 1 p;
        faults = sum_faults t.stats.page_faults f (one ff) (one wf) r;
        evictions = wraps_none t.stats.evictions;
      })

  -- a leaf that is installed, where the TLB is on
  led_adds : (t : Tlb) (l : LeafAt) → Consults m q t None → AddsBy (filled m q l t).stats true false true false false (m.tlb_enabled && takes_victim t (made_of m q l))
  unfolding tlb_install tallied takes_victim
  led_adds t l c = go m.tlb_enabled
    where
      u : Tlb
      u = tallied 0 1 0 t

      a : AddsBy u.stats true false true false false false
      a = counted t None c 0 false true false false refl refl

      go : (b : Bool) → AddsBy (cond b (tlb_install u (made_of m q l)) u).stats true false true false false (b && takes_victim t (made_of m q l))
      go true = record {
        hits = a.hits;
        misses = a.misses;
        accesses = a.accesses;
        faults = a.faults;
        evictions = install_evicts u (made_of m q l) ∙ ap (λ (x : ℕ). (x + one (takes_victim t (made_of m q l))) % 2 ^ 64) c.evictions;
      }
      go false = a

  case_adds : mode_known m.scheme m.satp.raw ≡ true → (v : Served) (ram' : List ℕ) → Case m q ram v ram' → Added v.mmu.tlb.stats
  unfolding made_of
  case_adds known v ram' (Passes h) = not_translated (passes_off h)
  case_adds known v ram' (Hits h t e k c p) = consulted known _ t (Some e) h k (rw p (counted t (Some e) c 0 true false false false refl refl))
  case_adds known v ram' (Forbids h t e k c p) = consulted known _ t (Some e) h k (rw p (counted t (Some e) c 1 false false true false refl refl))
  case_adds known v ram' (Leads h t k c l e) = consulted known _ t None h k (rw e (led_adds t l c))
  case_adds known v ram' (Ends h t k c stop e) = consulted known _ t None h k (rw e (counted t None c 1 false true false true refl refl))

  turn_adds : (v : Served) (ram' : List ℕ) → Turn m q ram v ram' → Added v.mmu.tlb.stats
  turn_adds v ram' (Refuses k) = not_translated (refused_off k)
  turn_adds v ram' (Serves k u r c) = case_adds k u r c

-- ---- a flush adds nothing

flush_stats : (t : Tlb) → (tlb_flush t).stats ≡ t.stats
unfolding tlb_flush flush_in
flush_stats t = refl

flush_at_stats : (t : Tlb) (va : ℕ) → (tlb_flush_vaddr t va).stats ≡ t.stats
unfolding tlb_flush_vaddr tlb_flush_page flush_page_in
flush_at_stats t va = refl

-- ---- a run

-- what a run adds to the tallies st
record Sums (st : TlbStats) (es : List Event) (m : Mmu) (ram : List ℕ) : Type 0 where
  hits : Wraps (end_mmu es m ram).tlb.stats.hits (st.hits + count_of found_hit es m ram)
  misses : Wraps (end_mmu es m ram).tlb.stats.misses (st.misses + count_of walks es m ram)
  accesses :
      Wraps
      ((end_mmu es m ram).tlb.stats.hits + (end_mmu es m ram).tlb.stats.misses + count_of found_fault es m ram)
      (st.hits + st.misses + count_of translated es m ram)
  faults : Wraps (end_mmu es m ram).tlb.stats.page_faults (st.page_faults + count_of found_fault es m ram + count_of walk_fault es m ram)
  evictions : Wraps (end_mmu es m ram).tlb.stats.evictions (st.evictions + count_of evicts es m ram)

sums : (es : List Event) (m : Mmu) (ram : List ℕ) → fit_of m ≡ true → Sums m.tlb.stats es m ram
unfolding end_mmu count_of
sums [] m ram fit =
    let st = m.tlb.stats in
    record {
      hits = wraps_none st.hits;
      misses = wraps_none st.misses;
      accesses = refl;
      faults = wraps_is st.page_faults (st.page_faults + 0 + 0) (omega arith);
      evictions = wraps_none st.evictions;
    }
sums (Translate q ∷ es) m ram fit =
    let m' = step_mmu (Translate q) m ram in
    let ram' = step_ram (Translate q) m ram in
    let st = m.tlb.stats in
    let st' = m'.tlb.stats in
    let end = (end_mmu es m' ram').tlb.stats in
    let a = turn_adds m q ram fit _ _ (translate_turn m q ram fit) in
    let r = sums es m' ram' (event_fit m fit ram (Translate q)) in
    record {
      hits = then_counts end.hits st'.hits _ st.hits _ r.hits a.hits;
      misses = then_counts end.misses st'.misses _ st.misses _ r.misses a.misses;
      accesses = then_accesses (end.hits + end.misses) _ (st'.hits + st'.misses) _ _ (st.hits + st.misses) _ r.accesses a.accesses;
      faults = then_faults end.page_faults st'.page_faults _ _ st.page_faults _ _ r.faults a.faults;
      evictions = then_counts end.evictions st'.evictions _ st.evictions _ r.evictions a.evictions;
    }
sums (Flush ∷ es) m ram fit =
    let m' = step_mmu Flush m ram in
    let same : m'.tlb.stats ≡ m.tlb.stats = ap (λ (x : Mmu). x.tlb.stats) (flushed m fit) ∙ flush_stats m.tlb in
    let r = subst (λ (st : TlbStats). Sums st es m' (step_ram Flush m ram)) same (sums es m' _ (event_fit m fit ram Flush)) in
    record { hits = r.hits; misses = r.misses; accesses = r.accesses; faults = r.faults; evictions = r.evictions }
sums (FlushAt va ∷ es) m ram fit =
    let m' = step_mmu (FlushAt va) m ram in
    let same : m'.tlb.stats ≡ m.tlb.stats = ap (λ (x : Mmu). x.tlb.stats) (flushed_at m fit va) ∙ flush_at_stats m.tlb va in
    let r = subst (λ (st : TlbStats). Sums st es m' (step_ram (FlushAt va) m ram)) same (sums es m' _ (event_fit m fit ram (FlushAt va))) in
    record { hits = r.hits; misses = r.misses; accesses = r.accesses; faults = r.faults; evictions = r.evictions }

pub add_up : TalliesAddUp
add_up es m ram fit =
    let r = sums es m ram fit in
    record { hits = r.hits; misses = r.misses; accesses = r.accesses; faults = r.faults; evictions = r.evictions }
