-- No operation changes a slot from the count on: each slot that it writes is one of a set's.
use Rattle.std.specs.Prelude.{None, Option, Some}
use Prim.Native.Nat.{ℕ, zero, suc, ◌+◌, ◌%◌, ◌≤◌, ◌<◌}
use mathlib.Core.Path.{◌≡◌, refl, ◌∙◌}
use mathlib.Core.Bool.{true, false}
use mathlib.Core.List.{List, [], ◌∷◌}
use mathlib.Core.Logic.{⊎_elim}
use native.Mathlib.Nat.{mod-lt}
use native.Mathlib.Omega.{arith}
use lib.ListN.{length, set, get_or}
use Rattle.entry.specs.Entry.{unreferenced_of, is_clock, cleared_of}
use Rattle.entry.specs.declared.TlbEntry.{TlbEntry}
use Rattle.entry.specs.declared.ReplacementPolicy.{ReplacementPolicy}
use Rattle.slots.specs.Slots.{entry_at, wanted_of, first_in, quiet_in, clock_from, map_in}
use Rattle.slots.specs.declared.Swept.{Swept}
use Rattle.slots.proofs.SlotLaws.{quiet_below, clock_below}
use Rattle.tlb.specs.Cache.{Cache, Chosen, store_at, evicted, clock_in, victim_in, on_slot, replace_in, install_new, set_of, start_of, slot_of, install_in, touch_at, find_from, probe_in, flush_in, clear_sets, flush_page_in}
use Rattle.tlb.specs.State.{Geo, ways_of, shape_of, cache_of, tlb_probe, tlb_install, tlb_flush, tlb_flush_page}
use Rattle.tlb.specs.declared.Tlb.{Tlb}
use Rattle.caches.specs.Terms.{SamePast}
use Rattle.caches.proofs.Kept.{at_set, by_cond}
use Rattle.caches.proofs.Finds.{first_found, find_class, set_count, found_count}

-- from n on the slots of fs are those of es
abbrev pub Past : ℕ → List TlbEntry → List TlbEntry → Type 0
Past n es fs = (j : ℕ) → n ≤ j → entry_at fs j ≡ entry_at es j

past_map : (f : TlbEntry → TlbEntry) (a k : ℕ) (es : List TlbEntry) (j : ℕ) → a + k ≤ j → entry_at (map_in f a k es) j ≡ entry_at es j
unfolding map_in
past_map f a k [] j h = refl
past_map f zero zero (x ∷ xs) j h = refl
past_map f zero (suc k) (x ∷ xs) zero h = absurd (omega arith)
past_map f zero (suc k) (x ∷ xs) (suc j) h = past_map f zero k xs j (omega arith)
past_map f (suc a) k (x ∷ xs) zero h = refl
past_map f (suc a) k (x ∷ xs) (suc j) h = past_map f a k xs j (omega arith)

module _ (n : ℕ) where
  past_set : (es : List TlbEntry) (i : ℕ) (x : TlbEntry) → i < n → Past n es (set es i x)
  past_set es i x l j h = ⊎_elim (λ w. absurd (omega (arith, w.0))) (λ w. w) (at_set es i x j)

  module _ (start ways : ℕ) (fits : start + ways ≤ n) where
    past_clock : (k hand : ℕ) (es : List TlbEntry) → hand < ways → Past n es (clock_from k start ways hand es).entries
    unfolding clock_from
    past_clock zero hand es h = λ j l. refl
    past_clock (suc k) hand es h =
        by_cond (λ (v : Swept). Past n es v.entries) (entry_at es (start + hand)).ref_bit
        (clock_from k start ways ((hand + 1) % ways) (set es (start + hand) (unreferenced_of (entry_at es (start + hand)))))
        (record { at = hand; entries = es })
        (λ j l. past_clock k ((hand + 1) % ways) (set es (start + hand) _) (mod-lt _ (omega arith)) j l ∙ past_set es (start + hand) _ (omega arith) j l)
        (λ j l. refl)

    module _ (some : 0 < ways) (group : ℕ) (c : Cache) where
      past_victim : (p : ReplacementPolicy) → Past n c.slots (victim_in p group start ways c).cache.slots
      unfolding victim_in clock_in
      past_victim p =
          by_cond (λ (v : Chosen). Past n c.slots v.cache.slots) (is_clock p) (clock_in group start ways c)
          (record { at = quiet_in p c.counter start ways c.slots; cache = c })
          (past_clock ways (get_or c.hands group 0 % ways) c.slots (mod-lt _ some))
          (λ j l. refl)

      -- the victim is one of the set's slots
      victim_below : (p : ReplacementPolicy) → start + ways ≤ length c.slots → (victim_in p group start ways c).at < n
      unfolding victim_in clock_in
      victim_below p long =
          by_cond (λ (v : Chosen). v.at < n) (is_clock p) (clock_in group start ways c)
          (record { at = quiet_in p c.counter start ways c.slots; cache = c })
          (omega (arith, clock_below start ways ways (get_or c.hands group 0 % ways) c.slots (mod-lt _ some)))
          (omega (arith, quiet_below p c.counter start ways c.slots some long))

      past_new : (p : ReplacementPolicy) (e : TlbEntry) → start + ways ≤ length c.slots → Past n c.slots (install_new p group start ways e c).slots
      unfolding install_new replace_in store_at evicted
      past_new p e long = go (first_in (wanted_of true 0 0) c.slots start (start + ways)) refl
        where
          go : (s : Option ℕ) → first_in (wanted_of true 0 0) c.slots start (start + ways) ≡ s →
              Past n c.slots (on_slot s (λ i. store_at p i e c) (replace_in p group start ways e c)).slots
          go (Some i) q = past_set c.slots i _ (omega (arith, (first_found _ c.slots start (start + ways) i q).high))
          go None q = λ j l. past_set (victim_in p group start ways c).cache.slots _ _ (victim_below p long) j l ∙ past_victim p j l

module _ (t : Tlb) (g : Geo t) where
  pub probe_past : (vpn asid : ℕ) → SamePast t (tlb_probe t vpn asid).tlb
  unfolding tlb_probe probe_in touch_at
  probe_past vpn asid = go (find_from (shape_of t) (shape_of t).classes vpn asid t.entries) refl
    where
      go : (k : Option ℕ) → find_from (shape_of t) (shape_of t).classes vpn asid t.entries ≡ k →
          Past t.count t.entries (on_slot k (λ i. touch_at t.config.replacement i (cache_of t)) (record { lookup = None; cache = cache_of t })).cache.slots
      go (Some i) q = past_set t.count t.entries i _ (found_count t g vpn asid i (find_class (shape_of t) (shape_of t).classes vpn asid t.entries i q)).high
      go None q = λ j l. refl

  pub install_past : (e : TlbEntry) → length t.entries ≡ 128 → SamePast t (tlb_install t e)
  unfolding tlb_install install_in store_at
  install_past e long = go (slot_of (shape_of t) e.vpn e.asid t.entries e.mask_bits) refl
    where
      go : (k : Option ℕ) → slot_of (shape_of t) e.vpn e.asid t.entries e.mask_bits ≡ k →
          Past t.count t.entries (on_slot k (λ i. store_at t.config.replacement i e (cache_of t))
          (install_new t.config.replacement (set_of (shape_of t) e.vpn e.mask_bits) (start_of (shape_of t) e.vpn e.mask_bits) (ways_of t) e (cache_of t))).slots
      go (Some i) q = past_set t.count t.entries i _ (found_count t g e.vpn e.asid i (record { class = e.mask_bits; here = q })).high
      go None q =
          let b : start_of (shape_of t) e.vpn e.mask_bits + ways_of t ≤ t.count = set_count t g _ (mod-lt _ g.some) in
          past_new t.count (start_of (shape_of t) e.vpn e.mask_bits) (ways_of t) b (omega arith) _ (cache_of t) t.config.replacement e
          (omega (arith, g.room))

  pub flush_past : SamePast t (tlb_flush t)
  unfolding tlb_flush flush_in
  flush_past j l = past_map (cleared_of true 0) 0 _ t.entries j (omega (arith, g.full))

  sets_past : (ms : List ℕ) (vpn : ℕ) (es : List TlbEntry) → Past t.count es (clear_sets (shape_of t) ms vpn es)
  unfolding clear_sets
  sets_past [] vpn es j l = refl
  sets_past (m ∷ ms) vpn es j l =
      sets_past ms vpn (map_in _ (start_of (shape_of t) vpn m) (ways_of t) es) j l ∙
      past_map (cleared_of false vpn) (start_of (shape_of t) vpn m) (ways_of t) es j (omega (arith, set_count t g (set_of (shape_of t) vpn m) (mod-lt _ g.some)))

  pub page_past : (vpn : ℕ) → SamePast t (tlb_flush_page t vpn)
  unfolding tlb_flush_page flush_page_in
  page_past vpn = sets_past (shape_of t).classes vpn t.entries
