-- The MMU's state: what `new` makes, how a scheme is adopted, and which states are fit.
use Rattle.std.specs.Prelude.{ℕ, ◌≤◌, ◌≡◌, Bool, true, false, ◌&&◌, List, [], ◌∷◌, eqb, take}
use Rattle.scheme.specs.Satp.{satp_with}
use Rattle.scheme.specs.Scheme.{valid_of, widths_of, classes, padded, sv32_scheme}
use Rattle.scheme.specs.declared.PagingScheme.{PagingScheme}
use Rattle.entry.specs.declared.TlbConfig.{TlbConfig}
use Rattle.tlb.specs.State.{Geo, tlb_new, tlb_set_scheme, tlb_fits}
use Rattle.tlb.specs.declared.Tlb.{Tlb}
use Rattle.state.specs.declared.Mmu.{Mmu}

-- a state with its TLB given
abbrev pub with_tlb : Mmu → Tlb → Mmu
with_tlb m t = record {
  tlb = t;
  scheme = m.scheme;
  satp = m.satp;
  enabled = m.enabled;
  force_translate = m.force_translate;
  tlb_enabled = m.tlb_enabled;
}

-- Sv32, satp 0, not enabled, no force, the TLB on
unfoldable pub state_new : TlbConfig → Mmu
state_new config = record {
  tlb = tlb_new config;
  scheme = sv32_scheme;
  satp = satp_with 0;
  enabled = false;
  force_translate = false;
  tlb_enabled = true;
}

-- "`set_scheme` keeps entries"; the TLB's offset width and page classes become the scheme's
unfoldable pub with_scheme : Mmu → PagingScheme → Mmu
with_scheme m s = record {
  tlb = tlb_set_scheme m.tlb s.offset_bits (padded (classes (widths_of s))) s.levels;
  scheme = s;
  satp = m.satp;
  enabled = m.enabled;
  force_translate = m.force_translate;
  tlb_enabled = m.tlb_enabled;
}

-- two lists of numbers, alike
unfoldable pub alike : List ℕ → List ℕ → Bool
alike [] [] = true
alike [] (y ∷ ys) = false
alike (x ∷ xs) [] = false
alike (x ∷ xs) (y ∷ ys) = eqb x y && alike xs ys

-- "its offset width and page classes are the scheme's"
abbrev pub scheme_held : Mmu → Bool
scheme_held m =
    eqb m.tlb.offset_bits m.scheme.offset_bits && (eqb m.tlb.mask_count m.scheme.levels
    && alike (take m.tlb.mask_count m.tlb.superpage_masks) (classes (widths_of m.scheme)))

-- "A state is fit when its scheme is valid, its geometry is what its config gives, at most 128 entries, its offset width and page classes
-- are the scheme's, and no entry's class is above 19."
unfoldable pub fit_of : Mmu → Bool
fit_of m = valid_of m.scheme && (tlb_fits m.tlb && scheme_held m)

-- what the core needs of a state: a valid scheme, sets that lie in the array, and at most four classes to probe
pub record Ready (m : Mmu) : Type 0 where
  pub valid : valid_of m.scheme ≡ true
  pub geo : Geo m.tlb
  pub few : m.tlb.mask_count ≤ 4
