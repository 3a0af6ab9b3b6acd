-- A fact of entries that survives new marks and dropping survives every operation, at every slot below n.
use Rattle.std.specs.Prelude.{None, Option, Some}
use Prim.Native.Nat.{ℕ, zero, suc, ◌+◌, ◌%◌, ◌<◌}
use mathlib.Core.Path.{◌≡◌, refl, sym, subst}
use mathlib.Core.Bool.{Bool, true, false, cond, ◌||◌}
use mathlib.Core.List.{List, [], ◌∷◌}
use mathlib.Core.Logic.{◌⊎◌, inl, inr, ⊎_elim}
use lib.ListN.{set, get_or}
use Rattle.entry.specs.Entry.{marked, matches_of, touched_of, fresh_of, unreferenced_of, invalid_of, cleared_of, is_clock}
use Rattle.entry.specs.declared.TlbEntry.{TlbEntry}
use Rattle.entry.specs.declared.ReplacementPolicy.{ReplacementPolicy}
use Rattle.entry.specs.declared.ReplacementPolicy.TheVariants.{Lru, Mru, Fifo, Lfu, Clock, Random}
use Rattle.slots.specs.Slots.{entry_at, wanted_of, first_in, quiet_in, clock_from, map_in}
use Rattle.slots.specs.declared.Swept.{Swept}
use Rattle.tlb.specs.Cache.{Cache, Shape, Chosen, Seen, store_at, evicted, clock_in, victim_in, on_slot, replace_in, install_new, set_of, start_of, slot_of, install_in, touch_at, find_from, probe_in, flush_in, clear_sets, flush_page_in}

-- a store changes one slot at most
pub at_set : (es : List TlbEntry) (i : ℕ) (x : TlbEntry) (j : ℕ) →
    ((j ≡ i) × (entry_at (set es i x) j ≡ x)) ⊎ (entry_at (set es i x) j ≡ entry_at es j)
at_set [] i x j = inr refl
at_set (y ∷ ys) zero x zero = inl (refl, refl)
at_set (y ∷ ys) zero x (suc j) = inr refl
at_set (y ∷ ys) (suc i) x zero = inr refl
at_set (y ∷ ys) (suc i) x (suc j) = ⊎_elim (λ w. inl (rw w.0, w.1)) (λ w. inr w) (at_set ys i x j)

-- and a change of slots in a row leaves each as it was or changed
pub at_map : (f : TlbEntry → TlbEntry) (a n : ℕ) (es : List TlbEntry) (j : ℕ) →
    (entry_at (map_in f a n es) j ≡ f (entry_at es j)) ⊎ (entry_at (map_in f a n es) j ≡ entry_at es j)
unfolding map_in
at_map f a n [] j = inr refl
at_map f zero zero (x ∷ xs) j = inr refl
at_map f zero (suc n) (x ∷ xs) zero = inl refl
at_map f zero (suc n) (x ∷ xs) (suc j) = at_map f zero n xs j
at_map f (suc a) n (x ∷ xs) zero = inr refl
at_map f (suc a) n (x ∷ xs) (suc j) = at_map f a n xs j

-- what an entry keeps when it is marked anew, and when it is dropped
pub record Stable (R : TlbEntry → Type 0) : Type 0 where
  pub mark : (e : TlbEntry) (n : ℕ) (b : Bool) → R e → R (marked e e.valid n b)
  pub drop : (e : TlbEntry) → R e → R (invalid_of e)

abbrev pub All : (TlbEntry → Type 0) → ℕ → List TlbEntry → Type 0
All R n es = (i : ℕ) → i < n → R (entry_at es i)

-- a choice by a test, and by a slot
pub by_cond : {A : Type 0} (K : A → Type 0) (b : Bool) (x y : A) → K x → K y → K (cond b x y)
by_cond K true x y h k = h
by_cond K false x y h k = k

pub by_slot : {A : Type 0} (K : A → Type 0) (s : Option ℕ) (f : ℕ → A) (z : A) → ((i : ℕ) → K (f i)) → K z → K (on_slot s f z)
by_slot K (Some i) f z g k = g i
by_slot K None f z g k = k

module _ (R : TlbEntry → Type 0) (st : Stable R) where
  touch_one : (p : ReplacementPolicy) (a : ℕ) (e : TlbEntry) → R e → R (touched_of p a e)
  touch_one Lru a e r = st.mark e a e.ref_bit r
  touch_one Mru a e r = st.mark e a e.ref_bit r
  touch_one Fifo a e r = r
  touch_one Lfu a e r = st.mark e a e.ref_bit r
  touch_one Clock a e r = st.mark e e.age true r
  touch_one Random a e r = r

  clear_one : (all : Bool) (vpn : ℕ) (e : TlbEntry) → R e → R (cleared_of all vpn e)
  clear_one all vpn e r = by_cond R (all || matches_of e vpn e.asid) (invalid_of e) e (st.drop e r) r

  module _ (n : ℕ) where
    keep_set : (es : List TlbEntry) (i : ℕ) (x : TlbEntry) → All R n es → (i < n → R x) → All R n (set es i x)
    keep_set es i x h f j l =
        ⊎_elim (λ w. rw w.1 (f (rw w.0 at l))) (λ w. rw w (h j l)) (at_set es i x j)

    keep_map : (all : Bool) (vpn a k : ℕ) (es : List TlbEntry) → All R n es → All R n (map_in (cleared_of all vpn) a k es)
    keep_map all vpn a k es h j l =
        ⊎_elim (λ w. subst R (sym w) (clear_one all vpn (entry_at es j) (h j l))) (λ w. subst R (sym w) (h j l)) (at_map (cleared_of all vpn) a k es j)

    keep_clock : (k start ways hand : ℕ) (es : List TlbEntry) → All R n es → All R n (clock_from k start ways hand es).entries
    unfolding clock_from
    keep_clock zero start ways hand es h = h
    keep_clock (suc k) start ways hand es h =
        by_cond (λ (v : Swept). All R n v.entries) (entry_at es (start + hand)).ref_bit
        (clock_from k start ways ((hand + 1) % ways) (set es (start + hand) (unreferenced_of (entry_at es (start + hand)))))
        (record { at = hand; entries = es })
        (keep_clock k start ways ((hand + 1) % ways) (set es (start + hand) (unreferenced_of (entry_at es (start + hand))))
        (keep_set es (start + hand) _ h (λ l. st.mark (entry_at es (start + hand)) _ false (h (start + hand) l))))
        h

    keep_victim : (p : ReplacementPolicy) (group start ways : ℕ) (c : Cache) → All R n c.slots → All R n (victim_in p group start ways c).cache.slots
    unfolding victim_in clock_in
    keep_victim p group start ways c h =
        by_cond (λ (v : Chosen). All R n v.cache.slots) (is_clock p) (clock_in group start ways c)
        (record { at = quiet_in p c.counter start ways c.slots; cache = c })
        (keep_clock ways start ways (get_or c.hands group 0 % ways) c.slots h)
        h

    abbrev Fine : Cache → Type 0
    Fine c = All R n c.slots

    module _ (e : TlbEntry) (new : (p : ReplacementPolicy) (a : ℕ) → R (fresh_of p a e)) where
      keep_store : (p : ReplacementPolicy) (i : ℕ) (c : Cache) → Fine c → Fine (store_at p i e c)
      unfolding store_at
      keep_store p i c h = keep_set c.slots i _ h (λ l. new p _)

      keep_replace : (p : ReplacementPolicy) (group start ways : ℕ) (c : Cache) → Fine c → Fine (replace_in p group start ways e c)
      unfolding replace_in evicted
      keep_replace p group start ways c h =
          keep_store p (victim_in p group start ways c).at (evicted (victim_in p group start ways c).cache) (keep_victim p group start ways c h)

      keep_new : (p : ReplacementPolicy) (group start ways : ℕ) (c : Cache) → Fine c → Fine (install_new p group start ways e c)
      unfolding install_new
      keep_new p group start ways c h =
          by_slot Fine (first_in (wanted_of true 0 0) c.slots start (start + ways)) (λ i. store_at p i e c) _ (λ i. keep_store p i c h)
          (keep_replace p group start ways c h)

      pub keep_install : (s : Shape) (c : Cache) → Fine c → Fine (install_in s e c)
      unfolding install_in
      keep_install s c h =
          by_slot Fine (slot_of s e.vpn e.asid c.slots e.mask_bits) (λ i. store_at s.policy i e c) _
          (λ i. keep_store s.policy i c h)
          (keep_new s.policy (set_of s e.vpn e.mask_bits) (start_of s e.vpn e.mask_bits) s.ways c h)

    abbrev FineSeen : Seen → Type 0
    FineSeen v = All R n v.cache.slots

    keep_touch : (p : ReplacementPolicy) (i : ℕ) (c : Cache) → Fine c → FineSeen (touch_at p i c)
    unfolding touch_at
    keep_touch p i c h = keep_set c.slots i _ h (λ l. touch_one p _ (entry_at c.slots i) (h i l))

    pub keep_probe : (s : Shape) (vpn asid : ℕ) (c : Cache) → Fine c → FineSeen (probe_in s vpn asid c)
    unfolding probe_in
    keep_probe s vpn asid c h =
        by_slot FineSeen (find_from s s.classes vpn asid c.slots) (λ i. touch_at s.policy i c) (record { lookup = None; cache = c })
        (λ i. keep_touch s.policy i c h) h

    pub keep_flush : (s : Shape) (c : Cache) → Fine c → Fine (flush_in s c)
    unfolding flush_in
    keep_flush s c h = keep_map true 0 0 _ c.slots h

    keep_sets : (s : Shape) (ms : List ℕ) (vpn : ℕ) (es : List TlbEntry) → All R n es → All R n (clear_sets s ms vpn es)
    unfolding clear_sets
    keep_sets s [] vpn es h = h
    keep_sets s (m ∷ ms) vpn es h = keep_sets s ms vpn (map_in _ (start_of s vpn m) s.ways es) (keep_map false vpn (start_of s vpn m) s.ways es h)

    pub keep_page : (s : Shape) (vpn : ℕ) (c : Cache) → Fine c → Fine (flush_page_in s vpn c)
    unfolding flush_page_in
    keep_page s vpn c h = keep_sets s s.classes vpn c.slots h
