-- Every operation leaves as many slots and hands as there were.
use Rattle.std.specs.Prelude.{None}
use Prim.Native.Nat.{ℕ, zero, suc, ◌+◌, ◌%◌}
use mathlib.Core.Path.{◌≡◌, refl, ap, ◌∙◌}
use mathlib.Core.Bool.{true}
use mathlib.Core.List.{List, [], ◌∷◌}
use lib.ListN.{length, set, get_or, length-set}
use Rattle.entry.specs.Entry.{unreferenced_of, is_clock}
use Rattle.entry.specs.declared.TlbEntry.{TlbEntry}
use Rattle.entry.specs.declared.ReplacementPolicy.{ReplacementPolicy}
use Rattle.slots.specs.Slots.{entry_at, wanted_of, first_in, quiet_in, clock_from, map_in}
use Rattle.slots.specs.declared.Swept.{Swept}
use Rattle.tlb.specs.Cache.{Cache, Shape, Chosen, Seen, store_at, evicted, clock_in, victim_in, replace_in, install_new, set_of, start_of, slot_of, install_in, touch_at, find_from, probe_in, flush_in, clear_sets, flush_page_in}
use Rattle.caches.proofs.Kept.{by_cond, by_slot}

pub record SameRoom (c d : Cache) : Type 0 where
  pub slots : length d.slots ≡ length c.slots
  pub hands : length d.hands ≡ length c.hands

map_length : (f : TlbEntry → TlbEntry) (a n : ℕ) (es : List TlbEntry) → length (map_in f a n es) ≡ length es
unfolding map_in
map_length f a n [] = refl
map_length f zero zero (x ∷ xs) = refl
map_length f zero (suc n) (x ∷ xs) = ap suc (map_length f zero n xs)
map_length f (suc a) n (x ∷ xs) = ap suc (map_length f a n xs)

pub clock_length : (k start ways hand : ℕ) (es : List TlbEntry) → length (clock_from k start ways hand es).entries ≡ length es
unfolding clock_from
clock_length zero start ways hand es = refl
clock_length (suc k) start ways hand es =
    by_cond (λ (v : Swept). length v.entries ≡ length es) (entry_at es (start + hand)).ref_bit
    (clock_from k start ways ((hand + 1) % ways) (set es (start + hand) (unreferenced_of (entry_at es (start + hand)))))
    (record { at = hand; entries = es })
    (clock_length k start ways ((hand + 1) % ways) (set es (start + hand) _) ∙ length-set es (start + hand) _)
    refl

module _ (c : Cache) where
  victim_room : (p : ReplacementPolicy) (group start ways : ℕ) → SameRoom c (victim_in p group start ways c).cache
  unfolding victim_in clock_in
  victim_room p group start ways =
      by_cond (λ (v : Chosen). SameRoom c v.cache) (is_clock p) (clock_in group start ways c)
      (record { at = quiet_in p c.counter start ways c.slots; cache = c })
      (record {
        slots = clock_length ways start ways (get_or c.hands group 0 % ways) c.slots;
        hands = length-set c.hands group _;
      })
      (record { slots = refl; hands = refl })

  module _ (e : TlbEntry) where
    store_room : (p : ReplacementPolicy) (i : ℕ) → SameRoom c (store_at p i e c)
    unfolding store_at
    store_room p i = record { slots = length-set c.slots i _; hands = refl }

    replace_room : (p : ReplacementPolicy) (group start ways : ℕ) → SameRoom c (replace_in p group start ways e c)
    unfolding replace_in evicted store_at
    replace_room p group start ways = record {
      slots = length-set (victim_in p group start ways c).cache.slots _ _ ∙ (victim_room p group start ways).slots;
      hands = (victim_room p group start ways).hands;
    }

    new_room : (p : ReplacementPolicy) (group start ways : ℕ) → SameRoom c (install_new p group start ways e c)
    unfolding install_new
    new_room p group start ways =
        by_slot (SameRoom c) (first_in (wanted_of true 0 0) c.slots start (start + ways)) (λ i. store_at p i e c) _ (λ i. store_room p i)
        (replace_room p group start ways)

    pub install_room : (s : Shape) → SameRoom c (install_in s e c)
    unfolding install_in
    install_room s =
        by_slot (SameRoom c) (slot_of s e.vpn e.asid c.slots e.mask_bits) (λ i. store_at s.policy i e c) _
        (λ i. store_room s.policy i)
        (new_room s.policy (set_of s e.vpn e.mask_bits) (start_of s e.vpn e.mask_bits) s.ways)

  touch_room : (p : ReplacementPolicy) (i : ℕ) → SameRoom c (touch_at p i c).cache
  unfolding touch_at
  touch_room p i = record { slots = length-set c.slots i _; hands = refl }

  pub probe_room : (s : Shape) (vpn asid : ℕ) → SameRoom c (probe_in s vpn asid c).cache
  unfolding probe_in
  probe_room s vpn asid =
      by_slot (λ (v : Seen). SameRoom c v.cache) (find_from s s.classes vpn asid c.slots) (λ i. touch_at s.policy i c)
      (record { lookup = None; cache = c })
      (λ i. touch_room s.policy i) (record { slots = refl; hands = refl })

  pub flush_room : (s : Shape) → SameRoom c (flush_in s c)
  unfolding flush_in
  flush_room s = record { slots = map_length _ 0 _ c.slots; hands = refl }

sets_length : (s : Shape) (ms : List ℕ) (vpn : ℕ) (es : List TlbEntry) → length (clear_sets s ms vpn es) ≡ length es
unfolding clear_sets
sets_length s [] vpn es = refl
sets_length s (m ∷ ms) vpn es =
    sets_length s ms vpn (map_in _ (start_of s vpn m) s.ways es) ∙ map_length _ (start_of s vpn m) s.ways es

pub page_room : (c : Cache) (s : Shape) (vpn : ℕ) → SameRoom c (flush_page_in s vpn c)
unfolding flush_page_in
page_room c s vpn = record { slots = sets_length s s.classes vpn c.slots; hands = refl }
