-- The choice by age takes the first smallest, or the last greatest: what is so of the slots before i stays so with slot i looked at.
use Prim.Native.Nat.{ℕ, zero, suc, ◌+◌, ◌-◌, ◌≤◌, ◌<◌}
use mathlib.Core.Path.{◌≡◌, refl}
use mathlib.Core.Bool.{Bool, true, false, cond}
use mathlib.Core.List.{List}
use mathlib.Core.Logic.{◌⊎◌, ⊎_elim}
use native.Mathlib.Nat.{eq-or-lt_of_le}
use native.Mathlib.Omega.{arith}
use lib.Dec.{leb, ltb}
use lib.ListN.{length}
use borrow.Author.Tests.{ltb-true, ltb-false, leb-true, leb-false}
use Rattle.entry.specs.declared.TlbEntry.{TlbEntry}
use Rattle.slots.specs.Slots.{best_from, best_in}
use Rattle.slots.proofs.SlotLaws.{best_none, best_step}
use Rattle.caches.specs.Terms.{age_at, FirstSmallest, LastGreatest}

last_or_before : (i j : ℕ) → j < i + 1 → (j ≡ i) ⊎ (j < i)
last_or_before i j h = eq-or-lt_of_le (omega arith)

module _ (es : List TlbEntry) (start : ℕ) where
  -- slot i looked at, by whether it is taken
  smaller_step : (i slot : ℕ) → FirstSmallest es start i slot → (b : Bool) → ltb (age_at es i) (age_at es slot) ≡ b →
      FirstSmallest es start (i + 1) (cond b i slot)
  smaller_step i slot f true q =
      let less : age_at es i < age_at es slot = ltb-true (age_at es i) (age_at es slot) q in
      record {
        low = omega (arith, f.low, f.high);
        high = omega arith;
        smallest = λ j h k. ⊎_elim (λ w. rw w (omega arith)) (λ l. omega (arith, f.smallest j h l)) (last_or_before i j k);
        first = λ j h k. omega (arith, f.smallest j h k);
      }
  smaller_step i slot f false q =
      let less : age_at es slot ≤ age_at es i = ltb-false (age_at es i) (age_at es slot) q in
      record {
        low = f.low;
        high = omega (arith, f.high);
        smallest = λ j h k. ⊎_elim (λ w. rw w less) (λ l. f.smallest j h l) (last_or_before i j k);
        first = f.first;
      }

  greater_step : (i slot : ℕ) → LastGreatest es start i slot → (b : Bool) → leb (age_at es slot) (age_at es i) ≡ b →
      LastGreatest es start (i + 1) (cond b i slot)
  greater_step i slot f true q =
      let more : age_at es slot ≤ age_at es i = leb-true (age_at es slot) (age_at es i) q in
      record {
        low = omega (arith, f.low, f.high);
        high = omega arith;
        greatest = λ j h k. ⊎_elim (λ w. rw w (omega arith)) (λ l. omega (arith, f.greatest j h l)) (last_or_before i j k);
        last = λ j h k. absurd (omega arith);
      }
  greater_step i slot f false q =
      let more : age_at es i < age_at es slot = leb-false (age_at es slot) (age_at es i) q in
      record {
        low = f.low;
        high = omega (arith, f.high);
        greatest = λ j h k. ⊎_elim (λ w. rw w (omega arith)) (λ l. f.greatest j h l) (last_or_before i j k);
        last = λ j h k. ⊎_elim (λ w. rw w more) (λ l. f.last j h l) (last_or_before i j k);
      }

  -- the age carried along is the slot's
  age_of : (b : Bool) (i slot : ℕ) → cond b (age_at es i) (age_at es slot) ≡ age_at es (cond b i slot)
  age_of true i slot = refl
  age_of false i slot = refl

  module _ (end : ℕ) (long : end ≤ length es) where
    smallest_from : (k i slot : ℕ) → i + k ≡ end → FirstSmallest es start i slot → FirstSmallest es start end (best_from false es i end slot (age_at es slot))
    smallest_from zero i slot q f =
        let e : i ≡ end = omega arith in
        rw (e, best_none) (rw e at f)
    smallest_from (suc k) i slot q f =
        let h : i < end = omega arith in
        let b : Bool = ltb (age_at es i) (age_at es slot) in
        rw (best_step false es end i slot (age_at es slot) h long, age_of (ltb (age_at es i) (age_at es slot)) i slot)
        (smallest_from k (i + 1) (cond b i slot) (omega arith) (smaller_step i slot f b refl))

    greatest_from : (k i slot : ℕ) → i + k ≡ end → LastGreatest es start i slot → LastGreatest es start end (best_from true es i end slot (age_at es slot))
    greatest_from zero i slot q f =
        let e : i ≡ end = omega arith in
        rw (e, best_none) (rw e at f)
    greatest_from (suc k) i slot q f =
        let h : i < end = omega arith in
        let b : Bool = leb (age_at es slot) (age_at es i) in
        rw (best_step true es end i slot (age_at es slot) h long, age_of (leb (age_at es slot) (age_at es i)) i slot)
        (greatest_from k (i + 1) (cond b i slot) (omega arith) (greater_step i slot f b refl))

-- of the first slot alone it is so
alone : (es : List TlbEntry) (start j : ℕ) → start ≤ j → j < start + 1 → age_at es start ≡ age_at es j
alone es start j h k = let e : j ≡ start = omega arith in rw e

module _ (es : List TlbEntry) (start ways : ℕ) (some : 0 < ways) (long : start + ways ≤ length es) where
  pub smallest : FirstSmallest es start (start + ways) (best_in false es start (start + ways))
  smallest = smallest_from es start (start + ways) long (ways - 1) (start + 1) start (omega arith) (record {
    low = omega arith;
    high = omega arith;
    smallest = λ j h k. omega (arith, alone es start j h k);
    first = λ j h k. absurd (omega arith);
  })

  pub greatest : LastGreatest es start (start + ways) (best_in true es start (start + ways))
  greatest = greatest_from es start (start + ways) long (ways - 1) (start + 1) start (omega arith) (record {
    low = omega arith;
    high = omega arith;
    greatest = λ j h k. omega (arith, alone es start j h k);
    last = λ j h k. absurd (omega arith);
  })
