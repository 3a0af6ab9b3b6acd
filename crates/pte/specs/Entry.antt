-- The fields of a page-table entry: "PTE bits 0-7 are V R W X U G A D, the PPN is bits 31-10"; of Sv39, "PPN in bits 53-10". An entry of
-- 32 bits has nothing above bit 31, so one definition serves both (`ppn_short`, `high_short` of proofs/Short.antt).
use Rattle.std.specs.Prelude.{ℕ, ◌/◌, ◌^◌, eqb, Bool, not, ◌&&◌, ◌||◌}
use Rattle.bits.specs.Bits.{bit, field_of}
use Rattle.pte.specs.declared.PtePerms.{PtePerms}

abbrev pub valid_bit : ℕ → Bool
valid_bit w = bit 0 w

abbrev pub perms_of : ℕ → PtePerms
perms_of w = record { r = bit 1 w; w = bit 2 w; x = bit 3 w; u = bit 4 w }

abbrev pub global_bit : ℕ → Bool
global_bit w = bit 5 w

-- the places of the two marks, A and D
abbrev pub a_place : ℕ
a_place = 6

abbrev pub d_place : ℕ
d_place = 7

-- "If R, W and X are all clear" it points on; a leaf has one of them
abbrev pub is_leaf : PtePerms → Bool
is_leaf p = (p.r || p.w) || p.x

abbrev pub leaf_of : ℕ → Bool
leaf_of w = is_leaf (perms_of w)

-- "W set with R clear"
abbrev pub reserved : PtePerms → Bool
reserved p = p.w && not p.r

-- "PPN in bits 53-10"
abbrev pub ppn_of : ℕ → ℕ
ppn_of w = field_of 10 44 w

-- "Bits 63-54 set in an entry"
abbrev pub high_bits : ℕ → Bool
high_bits w = not (eqb (w / 2 ^ 54) 0)
