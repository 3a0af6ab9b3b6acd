-- Paging schemes: "a page offset width and one to four index widths, top first".
use Rattle.std.specs.Prelude.{ℕ, suc, ◌+◌, ◌-◌, ◌*◌, ◌/◌, ◌^◌, ◌≤◌, ◌<◌, List, [], ◌∷◌, ◌++◌, Bool, true, ◌&&◌, ◌||◌, cond, length, get_or, take, drop, leb, ltb, eqb, Err, Ok, Result}
use Rattle.scheme.specs.declared.refusal.Refusal.{Refusal}
use Rattle.scheme.specs.declared.PagingScheme.{PagingScheme}
use Rattle.scheme.specs.declared.Format.{Format}
use Rattle.scheme.specs.declared.LeafMasks.{LeafMasks}
use Rattle.scheme.specs.declared.refusal.Refusal.TheVariants.{BadScheme}
use Rattle.scheme.specs.Refusals.{asked}

-- "Sv32": offset 12, widths 10 and 10
abbrev pub sv32_scheme : PagingScheme
sv32_scheme = record { offset_bits = 12; level_bits = 10 ∷ 10 ∷ 0 ∷ 0 ∷ []; levels = 2 }

-- "Sv39": offset 12, widths 9, 9 and 9
abbrev pub sv39_scheme : PagingScheme
sv39_scheme = record { offset_bits = 12; level_bits = 9 ∷ 9 ∷ 9 ∷ 0 ∷ []; levels = 3 }

-- the sum of widths
unfoldable pub total : List ℕ → ℕ
total [] = 0
total (w ∷ ws) = w + total ws

abbrev pub between : ℕ → ℕ → ℕ → Bool
between low high n = leb low n && leb n high

-- "each used width 1 to 12"
unfoldable pub ok_widths : List ℕ → Bool
ok_widths [] = true
ok_widths (w ∷ ws) = between 1 12 w && ok_widths ws

-- how many levels a scheme says that it has
abbrev pub levels_of : PagingScheme → ℕ
levels_of s = s.levels

-- the used widths: all four where the count is above 4
abbrev pub widths_of : PagingScheme → List ℕ
widths_of s = take s.levels s.level_bits

-- the offset and the used widths together
abbrev pub total_bits : PagingScheme → ℕ
total_bits s = s.offset_bits + total (widths_of s)

-- document 01's schemes: "Valid: offset 12 to 30, each used width 1 to 12, all together 32", with "one to four index widths".
-- "The bundle and the installer stay with 01's schemes"
unfoldable pub bought_of : PagingScheme → Bool
bought_of s =
    between 12 30 s.offset_bits && (between 1 4 s.levels && (ok_widths (widths_of s) && eqb (total_bits s) 32))

-- "the manual's Sv39: three widths of 9, offset 12"; a fourth width is not looked at
unfoldable pub is_sv39 : PagingScheme → Bool
is_sv39 s =
    eqb s.offset_bits 12 && (eqb s.levels 3
    && ((eqb (get_or s.level_bits 0 0) 9 && eqb (get_or s.level_bits 1 0) 9) && eqb (get_or s.level_bits 2 0) 9))

-- the schemes that there are
unfoldable pub valid_of : PagingScheme → Bool
valid_of s = bought_of s || is_sv39 s

-- refusal 1 otherwise: "the scheme is not valid, or a level asked about is not below its count"
abbrev pub known_level : PagingScheme → ℕ → Bool
known_level s level = valid_of s && ltb level s.levels

-- "The shift at a level is the offset plus the widths below it"
unfoldable pub shift_of : ℕ → List ℕ → ℕ → ℕ
shift_of offset ws level = offset + total (drop (suc level) ws)

unfoldable pub shift_at : PagingScheme → ℕ → Result ℕ Refusal
shift_at s level = asked (known_level s level) (shift_of s.offset_bits (widths_of s) level)

-- the bytes of a page that a leaf at a level maps: one for each value of the bits below the level's index
unfoldable pub page_bytes_at : PagingScheme → ℕ → Result ℕ Refusal
page_bytes_at s level = asked (known_level s level) (2 ^ shift_of s.offset_bits (widths_of s) level)

-- the entries of a level's table: one for each index
unfoldable pub entries_at : PagingScheme → ℕ → Result ℕ Refusal
entries_at s level = asked (known_level s level) (2 ^ get_or (widths_of s) level 0)

-- "Classes are shift minus offset for each level, ascending": a level's class is the sum of the widths below it
unfoldable pub classes : List ℕ → List ℕ
classes [] = []
classes (w ∷ ws) = classes ws ++ (total ws ∷ [])

-- the classes, and 0 in the places that are left of four
abbrev pub padded : List ℕ → List ℕ
padded cs = cs ++ drop (length cs) (0 ∷ 0 ∷ 0 ∷ 0 ∷ [])

-- the classes of a valid scheme, or refusal 1
unfoldable pub leaf_masks : PagingScheme → Result LeafMasks Refusal
leaf_masks s = cond (valid_of s) (Ok (record { masks = padded (classes (widths_of s)); count = s.levels })) (Err BadScheme)

-- document 01's format: words of four bytes; physical addresses "kept to 32 bits"; no virtual address has a bit above 31; "satp: bit 31 mode
-- (0 Bare), bits 30-22 ASID, 21-0 PPN", and "mode 1" where it is on
abbrev pub sv32 : Format
sv32 = record {
  bytes = 4;
  space = 32;
  top = 32;
  ones = 0;
  asid_at = 22;
  asid_bits = 9;
  mode_at = 31;
  mode_bits = 1;
  mode = 1;
}

-- Sv39's: "8-byte entries"; 44 bits of PPN and 12 of offset; "address bits 63-39 all equal to bit 38", which are 26 bits from bit 38 on;
-- "mode in 63-60 (8 for Sv39, 0 for Bare), ASID 59-44, PPN 43-0"
abbrev pub sv39 : Format
sv39 = record {
  bytes = 8;
  space = 56;
  top = 38;
  ones = 2 ^ 26 - 1;
  asid_at = 44;
  asid_bits = 16;
  mode_at = 60;
  mode_bits = 4;
  mode = 8;
}

-- the format of a scheme; one that is not valid has document 01's
unfoldable pub format_of : PagingScheme → Format
format_of s = cond (is_sv39 s) sv39 sv32

-- what the formats have in common, by which the numbers of a walk fit their machine words
pub record Modest (f : Format) : Type 0 where
  pub some : 0 < f.bytes
  pub short : f.bytes ≤ 8
  pub roomy : 12 ≤ f.space
  pub narrow : f.space ≤ 56
  pub tall : 32 ≤ f.top
  pub named : f.asid_bits ≤ 16

-- n bytes in whole frames of 4096
abbrev pub round_up : ℕ → ℕ
round_up n = (n + 4095) / 4096 * 4096

-- "RAM size less the top table's bytes rounded up to 4096, not under 0, rounded down to 4096"
unfoldable pub root_pa : PagingScheme → ℕ → Result ℕ Refusal
root_pa s size = asked (valid_of s) ((size - round_up ((format_of s).bytes * 2 ^ get_or (widths_of s) 0 0)) / 4096 * 4096)
