-- How a search or a change through the slots goes one slot on, and where its answer lies.
use Rattle.std.specs.Prelude.{Some, None}
use Prim.Native.Nat.{ℕ, zero, suc, ◌+◌, ◌-◌, ◌%◌, ◌≤◌, ◌<◌}
use mathlib.Core.Path.{◌≡◌, refl, sym, ap}
use mathlib.Core.Bool.{Bool, true, false, cond}
use mathlib.Core.List.{List, [], ◌∷◌, ◌++◌}
use native.Mathlib.Nat.{lt_irrefl, not-suc-le-zero, zero-add, suc-add, mod-lt}
use native.Mathlib.Numerals.{add-one, sub-one}
use native.Mathlib.Omega.{arith}
use borrow.Author.Rules.{rules}
use borrow.Rule.Slice.PartMut.{put_mid}
use Rattle.std.proofs.lemmas.List.{places, set-append_right, set-append_left}
use lib.ListN.{length, set, take, drop}
use lib.Seq.{slice, slice-cons, slice_empty, length-slice}
use Rattle.entry.specs.Entry.{blank, unreferenced_of, better_of}
use Rattle.entry.specs.declared.TlbEntry.{TlbEntry}
use Rattle.entry.specs.declared.ReplacementPolicy.{ReplacementPolicy}
use Rattle.entry.specs.declared.ReplacementPolicy.TheVariants.{Lru, Mru, Fifo, Lfu, Clock, Random}
use Rattle.slots.specs.Slots.{entry_at, first_in, best, best_from, best_in, quiet_in, clock_from, map_in}
use Rattle.slots.specs.declared.Swept.{Swept}

module _ (p : TlbEntry → Bool) (es : List TlbEntry) (end : ℕ) where
  -- nothing is left
  pub first_none : first_in p es end end ≡ None
  unfolding first_in
  first_none = rw slice_empty

  -- the slot at i decides, or the search goes on at the next
  pub first_step : (i : ℕ) → i < end → end ≤ length es → first_in p es i end ≡ cond (p (entry_at es i)) (Some i) (first_in p es (i + 1) end)
  unfolding first_in
  first_step i h k = rw (add-one i, slice-cons i end es blank h k)

module _ (newest : Bool) (es : List TlbEntry) (end : ℕ) where
  pub best_none : (slot age : ℕ) → best_from newest es end end slot age ≡ slot
  unfolding best_from
  best_none slot age = rw slice_empty

  -- the slot at i is taken where its age is better, and the choice goes on at the next
  pub best_step : (i slot age : ℕ) → i < end → end ≤ length es →
      best_from newest es i end slot age ≡
      best_from newest es (i + 1) end (cond (better_of newest (entry_at es i).age age) i slot) (cond (better_of newest (entry_at es i).age age) (entry_at es i).age age)
  unfolding best_from
  best_step i slot age h k = rw (add-one i, slice-cons i end es blank h k)

-- where the best slot is: below the end
module _ (newest : Bool) (bound : ℕ) where
  pick_below : (b : Bool) (m n : ℕ) → m < bound → n < bound → cond b m n < bound
  pick_below true m n h k = h
  pick_below false m n h k = k

  best_below : (xs : List TlbEntry) (n slot age : ℕ) → slot < bound → n + length xs ≤ bound → best newest xs n slot age < bound
  best_below [] n slot age h k = h
  best_below (x ∷ xs) n slot age h k =
      best_below xs (suc n) _ _ (pick_below (better_of newest x.age age) n slot (omega arith) h) (omega arith)

pub best_in_lem : (newest : Bool) (es : List TlbEntry) (start end : ℕ) → start < end → end ≤ length es → best_in newest es start end < end
unfolding best_from
best_in_lem newest es start end h k =
    best_below newest end (slice (start + 1) end es) (start + 1) start (entry_at es start).age h (omega (arith, length-slice (start + 1) end es k))

-- whatever the policy, the victim is one of the set's slots
pub quiet_below : (p : ReplacementPolicy) (counter start ways : ℕ) (es : List TlbEntry) → 0 < ways → start + ways ≤ length es → quiet_in p counter start ways es < start + ways
quiet_below Lru counter start ways es h k = best_in_lem false es start (start + ways) (omega arith) k
quiet_below Mru counter start ways es h k = best_in_lem true es start (start + ways) (omega arith) k
quiet_below Fifo counter start ways es h k = best_in_lem false es start (start + ways) (omega arith) k
quiet_below Lfu counter start ways es h k = best_in_lem false es start (start + ways) (omega arith) k
quiet_below Clock counter start ways es h k = omega arith
quiet_below Random counter start ways es h k = omega (arith, mod-lt counter h)

pub clock_none : (start ways hand : ℕ) (es : List TlbEntry) → clock_from 0 start ways hand es ≡ record { at = hand; entries = es }
unfolding clock_from
clock_none start ways hand es = refl

pub clock_step : (k start ways hand : ℕ) (es : List TlbEntry) → 0 < k →
    clock_from k start ways hand es ≡
    cond (entry_at es (start + hand)).ref_bit
    (clock_from (k - 1) start ways ((hand + 1) % ways) (set es (start + hand) (unreferenced_of (entry_at es (start + hand)))))
    (record { at = hand; entries = es })
unfolding clock_from
clock_step zero start ways hand es p = absurd (lt_irrefl 0 p)
clock_step (suc k) start ways hand es p = rw (sub-one (suc k))

-- the clock's choice is a place in the set
module _ (start ways : ℕ) where
  pick_at : (b : Bool) (v w : Swept) → v.at < ways → w.at < ways → (cond b v w).at < ways
  pick_at true v w h k = h
  pick_at false v w h k = k

  pub clock_below : (k hand : ℕ) (es : List TlbEntry) → hand < ways → (clock_from k start ways hand es).at < ways
  unfolding clock_from
  clock_below zero hand es h = h
  clock_below (suc k) hand es h =
      pick_at (entry_at es (start + hand)).ref_bit _ (record { at = hand; entries = es })
      (clock_below k ((hand + 1) % ways) (set es (start + hand) (unreferenced_of (entry_at es (start + hand)))) (mod-lt _ (omega arith)))
      h

module _ (f : TlbEntry → TlbEntry) where
  pub map_none : (a : ℕ) (es : List TlbEntry) → map_in f a 0 es ≡ es
  unfolding map_in
  map_none a [] = refl
  map_none zero (x ∷ xs) = refl
  map_none (suc a) (x ∷ xs) = ap (λ (l : List TlbEntry). x ∷ l) (map_none a xs)

  -- the slot past those done is as it was
  pub map_at : (a k : ℕ) (es : List TlbEntry) → entry_at (map_in f a k es) (a + k) ≡ entry_at es (a + k)
  unfolding map_in
  map_at a k [] = refl
  map_at zero zero (x ∷ xs) = refl
  map_at zero (suc k) (x ∷ xs) = rw (zero-add (suc k)) (rw (zero-add k) at (map_at zero k xs))
  map_at (suc a) k (x ∷ xs) = rw (suc-add a k) (map_at a k xs)

  -- f at that slot too
  pub map_step : (a k : ℕ) (es : List TlbEntry) → a + k < length es →
      set (map_in f a k es) (a + k) (f (entry_at es (a + k))) ≡ map_in f a (k + 1) es
  unfolding map_in
  map_step a k [] h = absurd (not-suc-le-zero h)
  map_step zero zero (x ∷ xs) h = ap (λ (l : List TlbEntry). f x ∷ l) (sym (map_none 0 xs))
  map_step zero (suc k) (x ∷ xs) h =
      let g : 0 + k < length xs = omega arith in
      rw (zero-add (suc k), add-one (suc k)) (ap (λ (l : List TlbEntry). f x ∷ l) (rw (zero-add k, add-one k) at (map_step zero k xs g)))
  map_step (suc a) k (x ∷ xs) h =
      let g : a + k < length xs = omega arith in
      rw (suc-add a k) (ap (λ (l : List TlbEntry). x ∷ l) (map_step a k xs g))

  -- the same where the slots from a on are lent: ys are what they hold, the first j as f leaves them
  pub put_step : (a k j : ℕ) (es ys : List TlbEntry) (v : TlbEntry) → a + j < length es → j < length ys →
      put_mid a k es ys ≡ map_in f a j es → v ≡ f (entry_at ys j) → put_mid a k es (set ys j v) ≡ map_in f a (j + 1) es
  put_step a k j es ys v h l e q =
      let s : a + j - a ≡ j = omega arith in
      let front : length (take a es) ≡ a = search (rules, places) in
      let written : put_mid a k es (set ys j v) ≡ set (put_mid a k es ys) (a + j) v =
      rw (set-append_right (take a es) (ys ++ drop k (drop a es)) a (a + j) v front (omega arith), s, set-append_left ys (drop k (drop a es)) j v l) in
      let read : entry_at (put_mid a k es ys) (a + j) ≡ entry_at ys j = search (rules, places) in
      let same : entry_at ys j ≡ entry_at es (a + j) = rw (← read, e, map_at) in
      rw (written, e, q, same, map_step a j es h)
