-- The levels of a valid scheme: their widths, shifts and sizes stay within a word.
use Prim.Native.Nat.{ℕ, ◌*◌, ◌^◌, ◌%◌, ◌≤◌, ◌<◌}
use native.Mathlib.Nat.{mod-eq_of_lt, mul-le-mul_left, le_trans}
use native.Mathlib.Omega.{arith}
use mathlib.Core.Path.{◌≡◌, sym}
use mathlib.Core.Bool.{Bool, true, false, cond}
use lib.Dec.{lit<}
use lib.ListN.{length, get_or}
use lib.Seq.{get_or-take, length-take-le}
use lib.Pow.{pow_mono}
use borrow.Author.Tests.{ltb-true}
use Rattle.bits.proofs.Masks.{one_shl}
use Rattle.bits.proofs.Bools.{and_left, and_right}
use Rattle.scheme.specs.declared.PagingScheme.{PagingScheme}
use Rattle.scheme.specs.Scheme.{widths_of, valid_of, known_level, shift_of, is_sv39, sv32, sv39, format_of, Modest}
use Rattle.scheme.proofs.Widths.{Valid, valid, ok_at, total_at}

-- a level of a valid scheme
module _ (s : PagingScheme) (four : length s.level_bits ≡ 4) (v : Valid s) (level : ℕ) (h : level < s.levels) where
  here : level < length (widths_of s)
  here =
      let long : s.levels ≤ length s.level_bits = omega (arith, v.four) in
      rw (length-take-le s.levels s.level_bits long) h

  own : (1 ≤ get_or (widths_of s) level 0) × (get_or (widths_of s) level 0 ≤ 12)
  own = ok_at (widths_of s) level v.ok here

  -- the code reads the array
  pub width_at_lem : get_or (widths_of s) level 0 ≡ get_or s.level_bits level 0
  width_at_lem = get_or-take s.levels s.level_bits level 0 h

  pub width_high : get_or s.level_bits level 0 ≤ 12
  width_high = rw width_at_lem at own.1

  pub shift_high : shift_of s.offset_bits (widths_of s) level < 32
  unfolding shift_of
  shift_high = omega (arith, v.low level here, total_at (widths_of s) level, v.least)

  -- `1 << width`
  pub one_width : 1 * 2 ^ get_or s.level_bits level 0 % 2 ^ 64 ≡ 2 ^ get_or (widths_of s) level 0
  one_width = rw width_at_lem (one_shl 64 _ (omega (arith, width_high)))

  -- `size << width`: the bytes of a level's table, at most eight frames
  module _ (size : ℕ) (few : size ≤ 8) where
    pub table_high : size * 2 ^ get_or (widths_of s) level 0 ≤ 32768
    table_high = le_trans (mul-le-mul_left size (pow_mono own.1)) (omega arith)

    pub table_bytes_lem : size * 2 ^ get_or s.level_bits level 0 % 2 ^ 64 ≡ size * 2 ^ get_or (widths_of s) level 0
    table_bytes_lem = rw (sym width_at_lem) (mod-eq_of_lt (omega (arith, table_high)))

pub modest : (s : PagingScheme) → Modest (format_of s)
unfolding format_of
modest s = go (is_sv39 s)
  where
    go : (b : Bool) → Modest (cond b sv39 sv32)
    go true = record { some = lit< tt; short = omega arith; roomy = omega arith; narrow = omega arith; tall = omega arith; named = omega arith }
    go false = record { some = lit< tt; short = omega arith; roomy = omega arith; narrow = omega arith; tall = omega arith; named = omega arith }

-- a level that is known
module _ (s : PagingScheme) (level : ℕ) (e : known_level s level ≡ true) where
  pub known_valid : Valid s
  known_valid = valid s (and_left _ _ e)

  pub known_below : level < s.levels
  known_below = ltb-true level s.levels (and_right (valid_of s) _ e)
