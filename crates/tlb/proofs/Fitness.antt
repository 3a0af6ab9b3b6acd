-- A fit state has what the operations need, and a state that has it is fit.
use Prim.Native.Nat.{ℕ, zero, suc, ◌≤◌, ◌<◌}
use mathlib.Core.Path.{◌≡◌, refl}
use mathlib.Core.Bool.{Bool, true, ◌&&◌}
use mathlib.Core.List.{List, [], ◌∷◌}
use native.Mathlib.Nat.{not-suc-le-zero, le_of_suc-le-suc}
use native.Mathlib.Omega.{arith}
use lib.Dec.{eqb, leb, lit≤}
use lib.ListN.{take}
use borrow.Author.Tests.{leb-true, eqb-true, le-leb, eq-eqb}
use Rattle.bits.proofs.Bools.{and_left, and_right}
use Rattle.entry.specs.Geometry.{entries_for, sets_for}
use Rattle.entry.specs.declared.TlbEntry.{TlbEntry}
use Rattle.entry.proofs.Laws.{entries_sets, sets_some}
use Rattle.slots.specs.Slots.{entry_at, all_fit, classes_fit}
use Rattle.tlb.specs.State.{tlb_fits, Fit}
use Rattle.tlb.specs.declared.Tlb.{Tlb}

-- every class among the first n, one by one
pub classes_below : (n : ℕ) (es : List TlbEntry) → classes_fit n es ≡ true → (i : ℕ) → i < n → (entry_at es i).mask_bits ≤ 19
unfolding classes_fit
classes_below zero es h i l = absurd (not-suc-le-zero l)
classes_below (suc n) [] h i l = lit≤ tt
classes_below (suc n) (x ∷ xs) h zero l = leb-true _ 19 (and_left (leb x.mask_bits 19) _ h)
classes_below (suc n) (x ∷ xs) h (suc i) l =
    classes_below n xs (and_right (leb x.mask_bits 19) (all_fit (take n xs)) h) i (le_of_suc-le-suc l)

pub below_classes : (n : ℕ) (es : List TlbEntry) → ((i : ℕ) → i < n → (entry_at es i).mask_bits ≤ 19) → classes_fit n es ≡ true
unfolding classes_fit
below_classes zero es f = refl
below_classes (suc n) [] f = refl
below_classes (suc n) (x ∷ xs) f =
    rw (le-leb x.mask_bits 19 (f 0 (omega arith))) (below_classes n xs (λ i l. f (suc i) (omega arith)))

module _ (t : Tlb) where
  pub tlb_fit : tlb_fits t ≡ true → Fit t
  unfolding tlb_fits
  tlb_fit h =
      let a : Bool = leb t.count 128 in
      let b : Bool = eqb t.count (entries_for t.config.entry_count t.config.associativity) in
      let d : Bool = eqb t.sets (sets_for t.config.entry_count t.config.associativity) in
      let front : ((a && b) && d) ≡ true = and_left ((a && b) && d) _ h in
      let made : t.count ≡ entries_for t.config.entry_count t.config.associativity = eqb-true _ _ (and_right a b (and_left (a && b) d front)) in
      let split : t.sets ≡ sets_for t.config.entry_count t.config.associativity = eqb-true _ _ (and_right (a && b) d front) in
      record {
        geo = record {
          some = rw split (sets_some t.config.entry_count t.config.associativity);
          full = rw (split, made) (entries_sets t.config.entry_count t.config.associativity);
          room = leb-true t.count 128 (and_left a b (and_left (a && b) d front));
        };
        made = made;
        split = split;
        classes = classes_below t.count t.entries (and_right ((a && b) && d) _ h);
      }

  pub fit_tlb : Fit t → tlb_fits t ≡ true
  unfolding tlb_fits
  fit_tlb f =
      rw (
        le-leb t.count 128 f.geo.room,
        eq-eqb t.count _ f.made,
        eq-eqb t.sets _ f.split,
        below_classes t.count t.entries f.classes,
      )
