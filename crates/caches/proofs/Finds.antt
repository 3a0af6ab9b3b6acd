-- What a search answers stands in the slots it looked at and passes its test; so what a probe finds is an entry of the cache.
use Rattle.std.specs.Prelude.{None, Some, Option}
use Prim.Native.Nat.{ℕ, suc, ◌+◌, ◌-◌, ◌*◌, ◌≤◌, ◌<◌, min}
use mathlib.Core.Path.{◌≡◌, refl, ap, ◌∙◌}
use mathlib.Core.Bool.{Bool, true, false, cond, ◌&&◌}
use mathlib.Core.List.{List, [], ◌∷◌}
use native.Mathlib.Nat.{mod-lt, suc-mul, mul-le-mul_right}
use native.Mathlib.Omega.{arith}
use lib.ListN.{length, take, length-take, length-drop}
use lib.Seq.{slice, get_or-drop, get_or-take}
use Rattle.entry.specs.Entry.{blank, matches_of, touched_of}
use Rattle.entry.specs.declared.TlbEntry.{TlbEntry}
use Rattle.entry.specs.declared.ReplacementPolicy.{ReplacementPolicy}
use Rattle.entry.specs.declared.ReplacementPolicy.TheVariants.{Lru, Mru, Fifo, Lfu, Clock, Random}
use Rattle.slots.specs.Slots.{entry_at, scan, first_in}
use Rattle.tlb.specs.Cache.{Shape, next_age, set_of, start_of, slot_of, on_slot, or_slot, touch_at, find_from, probe_in}
use Rattle.tlb.specs.State.{Geo, ways_of, shape_of, cache_of, tlb_probe}
use Rattle.tlb.specs.declared.Tlb.{Tlb}
use Rattle.caches.specs.Terms.{said_by, EntryOf}

-- slot i is one of those from a up to b, and passes
pub record Passes (p : TlbEntry → Bool) (es : List TlbEntry) (a b i : ℕ) : Type 0 where
  pub low : a ≤ i
  pub high : i < b
  pub test : p (entry_at es i) ≡ true

module _ (p : TlbEntry → Bool) where
  scan_found : (xs : List TlbEntry) (n i : ℕ) → scan p xs n ≡ Some i → (n ≤ i) × (i < n + length xs) × (p (entry_at xs (i - n)) ≡ true)
  scan_found [] n i e = absurd cc
  scan_found (x ∷ xs) n i e = go (p x) refl e (scan_found xs (suc n) i)
    where
      go : (b : Bool) → p x ≡ b → cond b (Some n) (scan p xs (suc n)) ≡ Some i →
          (scan p xs (suc n) ≡ Some i → (suc n ≤ i) × (i < suc n + length xs) × (p (entry_at xs (i - suc n)) ≡ true)) →
          (n ≤ i) × (i < n + length (x ∷ xs)) × (p (entry_at (x ∷ xs) (i - n)) ≡ true)
      go true q r f =
          let z : n ≡ i = cc in
          let d : i - n ≡ 0 = omega arith in
          (omega arith, omega arith, rw d q)
      go false q r f =
          let h = f r in
          let d : i - n ≡ suc (i - suc n) = omega (arith, h.0) in
          (omega (arith, h.0), omega (arith, h.1), rw d h.2)

  pub first_found : (es : List TlbEntry) (a b i : ℕ) → first_in p es a b ≡ Some i → Passes p es a b i
  unfolding first_in
  first_found es a b i e =
      let h = scan_found (slice a b es) a i e in
      let n : length (slice a b es) ≡ min b (length es) - a = length-drop a (take b es) ∙ ap (λ (k : ℕ). k - a) (length-take b es) in
      let low : a ≤ i = h.0 in
      let high : i < b = omega (arith, h.1) in
      let d : a + (i - a) ≡ i = omega arith in
      let at : entry_at (slice a b es) (i - a) ≡ entry_at es i = get_or-drop a (take b es) (i - a) blank ∙ rw (d, get_or-take b es i blank high) in
      record { low = low; high = high; test = rw at at h.2 }

-- a class in whose set it was found
pub record InClass (s : Shape) (vpn asid : ℕ) (es : List TlbEntry) (i : ℕ) : Type 0 where
  pub class : ℕ
  pub here : slot_of s vpn asid es class ≡ Some i

pub find_class : (s : Shape) (ms : List ℕ) (vpn asid : ℕ) (es : List TlbEntry) (i : ℕ) → find_from s ms vpn asid es ≡ Some i → InClass s vpn asid es i
unfolding find_from
find_class s [] vpn asid es i e = absurd cc
find_class s (m ∷ ms) vpn asid es i e = go (slot_of s vpn asid es m) refl e (find_class s ms vpn asid es i)
  where
    go : (k : Option ℕ) → slot_of s vpn asid es m ≡ k → or_slot k (find_from s ms vpn asid es) ≡ Some i →
        (find_from s ms vpn asid es ≡ Some i → InClass s vpn asid es i) → InClass s vpn asid es i
    go (Some j) q r f = record { class = m; here = q ∙ r }
    go None q r f = f r

-- a touch changes nothing of what an entry says, and nothing of whether it answers
module _ (a : ℕ) (e : TlbEntry) where
  touch_said : (p : ReplacementPolicy) → said_by (touched_of p a e) ≡ said_by e
  touch_said Lru = refl
  touch_said Mru = refl
  touch_said Fifo = refl
  touch_said Lfu = refl
  touch_said Clock = refl
  touch_said Random = refl

  touch_valid : (p : ReplacementPolicy) → (touched_of p a e).valid ≡ e.valid
  touch_valid Lru = refl
  touch_valid Mru = refl
  touch_valid Fifo = refl
  touch_valid Lfu = refl
  touch_valid Clock = refl
  touch_valid Random = refl

  touch_matches : (p : ReplacementPolicy) (vpn asid : ℕ) → matches_of (touched_of p a e) vpn asid ≡ matches_of e vpn asid
  unfolding matches_of
  touch_matches Lru vpn asid = refl
  touch_matches Mru vpn asid = refl
  touch_matches Fifo vpn asid = refl
  touch_matches Lfu vpn asid = refl
  touch_matches Clock vpn asid = refl
  touch_matches Random vpn asid = refl

-- only a valid entry answers
pub match_valid : (e : TlbEntry) (vpn asid : ℕ) → matches_of e vpn asid ≡ true → e.valid ≡ true
unfolding matches_of
match_valid e vpn asid h = go e.valid _ _ h
  where
    go : (v a b : Bool) → ((v && a) && b) ≡ true → v ≡ true
    go true a b q = refl
    go false a b q = q

-- a set's slots are entries
pub set_count : (t : Tlb) → Geo t → (s : ℕ) → s < t.sets → s * ways_of t + ways_of t ≤ t.count
set_count t g s h = omega (arith, suc-mul s (ways_of t), mul-le-mul_right (ways_of t) h, g.full)

-- and what is found is one of them
pub found_count : (t : Tlb) → Geo t → (vpn asid i : ℕ) (c : InClass (shape_of t) vpn asid t.entries i) →
    Passes (λ e. matches_of e vpn asid) t.entries (start_of (shape_of t) vpn c.class) t.count i
found_count t g vpn asid i c =
    let m = c.class in
    let p = first_found (λ e. matches_of e vpn asid) t.entries (start_of (shape_of t) vpn m) (start_of (shape_of t) vpn m + ways_of t) i c.here in
    record { low = p.low; high = omega (arith, p.high, set_count t g (set_of (shape_of t) vpn m) (mod-lt _ g.some)); test = p.test }

module _ (t : Tlb) (vpn asid : ℕ) (g : Geo t) where
  entry_at_lem : (e : TlbEntry) (i : ℕ) → find_from (shape_of t) (shape_of t).classes vpn asid t.entries ≡ Some i →
      touched_of t.config.replacement (next_age (cache_of t)) (entry_at t.entries i) ≡ e → EntryOf t vpn asid e
  entry_at_lem e i f q =
      let p = found_count t g vpn asid i (find_class (shape_of t) (shape_of t).classes vpn asid t.entries i f) in
      let y : matches_of (entry_at t.entries i) vpn asid ≡ true = p.test in
      let v : (entry_at t.entries i).valid ≡ true = match_valid (entry_at t.entries i) vpn asid y in
      record {
        at = i;
        below = p.high;
        valid = v;
        answers = y;
        said = rw (← q) (touch_said _ (entry_at t.entries i) t.config.replacement);
        live = rw (← q) (touch_valid _ (entry_at t.entries i) t.config.replacement ∙ v);
        same = rw (← q) (touch_matches _ (entry_at t.entries i) t.config.replacement vpn asid ∙ y);
      }

  pub probe_entry : (e : TlbEntry) → (tlb_probe t vpn asid).lookup ≡ Some e → EntryOf t vpn asid e
  unfolding tlb_probe probe_in touch_at
  probe_entry e h = go (find_from (shape_of t) (shape_of t).classes vpn asid t.entries) refl h
    where
      go : (k : Option ℕ) → find_from (shape_of t) (shape_of t).classes vpn asid t.entries ≡ k →
          (on_slot k (λ i. touch_at t.config.replacement i (cache_of t)) (record { lookup = None; cache = cache_of t })).lookup ≡ Some e →
          EntryOf t vpn asid e
      go (Some i) q r = entry_at_lem e i q (cc)
      go None q r = absurd cc
