-- Which states are fit: the tests of the code come to the definition, and a fit state has what the core needs.
use Prim.Native.Nat.{◌≤◌}
use native.Mathlib.Omega.{arith}
use mathlib.Core.Path.{◌≡◌, refl, ◌∙◌}
use mathlib.Core.Bool.{Bool, true, false, and-eq-true_iff}
use lib.Dec.{eqb}
use lib.ListN.{length, take}
use lib.Seq.{take_at, length-take-le}
use borrow.Author.Tests.{eqb-true}
use Rattle.scheme.specs.Scheme.{valid_of, widths_of, classes, padded, leaf_masks}
use Rattle.scheme.specs.declared.LeafMasks.{LeafMasks}
use Rattle.scheme.specs.declared.PagingScheme.{PagingScheme}
use Rattle.scheme.specs.declared.refusal.Refusal.{Refusal}
use Rattle.std.specs.Prelude.{Ok, Err}
use Rattle.scheme.proofs.Widths.{valid}
use Rattle.scheme.proofs.Classes.{length_classes}
use Rattle.tlb.specs.State.{tlb_fits}
use Rattle.tlb.proofs.Fitness.{tlb_fit}
use Rattle.state.specs.State.{Ready, scheme_held, fit_of}
use Rattle.state.specs.declared.Mmu.{Mmu}

-- the classes that a scheme gives out, if it is valid
module _ (s : PagingScheme) where
  pub masks_of : (c : LeafMasks) → leaf_masks s ≡ Ok c → (valid_of s ≡ true) × (c ≡ record { masks = padded (classes (widths_of s)); count = s.levels })
  unfolding leaf_masks
  masks_of c e = go (valid_of s) refl
    where
      go : (b : Bool) → valid_of s ≡ b → (valid_of s ≡ true) × (c ≡ record { masks = padded (classes (widths_of s)); count = s.levels })
      go true v = let k = rw v at e in (v, cc)
      go false v = let k = rw v at e in absurd cc

  pub no_masks : (why : Refusal) → leaf_masks s ≡ Err why → valid_of s ≡ false
  unfolding leaf_masks
  no_masks why e = go (valid_of s) refl
    where
      go : (b : Bool) → valid_of s ≡ b → valid_of s ≡ false
      go true v = let k = rw v at e in absurd cc
      go false v = v

  pub classes_back : s.levels ≤ length s.level_bits → take s.levels (padded (classes (widths_of s))) ≡ classes (widths_of s)
  classes_back long = take_at _ _ s.levels (length_classes (widths_of s) ∙ length-take-le s.levels s.level_bits long)

module _ (m : Mmu) where
  pub not_valid : valid_of m.scheme ≡ false → false ≡ fit_of m
  unfolding fit_of
  not_valid v = rw v

  -- what a fit state has
  pub fit_held : fit_of m ≡ true → (valid_of m.scheme ≡ true) × (tlb_fits m.tlb ≡ true) × (scheme_held m ≡ true)
  unfolding fit_of
  fit_held e =
      let a = (and-eq-true_iff (valid_of m.scheme) _).0 e in
      let b = (and-eq-true_iff (tlb_fits m.tlb) _).0 a.1 in
      (a.0, b.0, b.1)

  pub fit_ready : fit_of m ≡ true → Ready m
  fit_ready e =
      let h = fit_held e in
      let held = (and-eq-true_iff (eqb m.tlb.offset_bits m.scheme.offset_bits) _).0 h.2 in
      let n : m.tlb.mask_count ≡ m.scheme.levels = eqb-true _ _ ((and-eq-true_iff (eqb m.tlb.mask_count m.scheme.levels) _).0 held.1).0 in
      record { valid = h.0; geo = (tlb_fit m.tlb h.1).geo; few = omega (arith, (valid m.scheme h.0).four) }
