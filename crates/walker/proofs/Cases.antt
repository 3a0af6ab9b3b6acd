-- Which case of the definitions of an entry holds, by what the tests said.
use Rattle.std.specs.Prelude.{Err, Ok}
use Prim.Native.Nat.{ℕ, ◌-◌, ◌%◌, ◌^◌}
use mathlib.Core.Path.{◌≡◌, sym, ◌∙◌}
use mathlib.Core.Bool.{true, false, not}
use mathlib.Core.List.{List}
use lib.Dec.{eqb}
use Rattle.pte.specs.Entry.{valid_bit, perms_of, leaf_of, ppn_of, high_bits, reserved}
use Rattle.memory.specs.Word.{readable, le_at}
use Rattle.walker.specs.Descent.{bad_if, leaf_is, entry_is, met_at, ended, seek, top_ok, descent_in}
use Rattle.scheme.specs.Scheme.{shift_of}
use Rattle.scheme.specs.declared.Format.{Format}
use Rattle.walker.specs.declared.Reason.TheVariants.{Unreadable, Invalid, WriteOnly, Misaligned, WrongTop, HighBits}
use Rattle.walker.specs.declared.Met.TheVariants.{Table, Leaf}

-- a test of a call's answer x, where the call ensures that x is y
pub said : {A : Type 0} {x y b : A} → x ≡ y → x ≡ b → y ≡ b
said p q = sym p ∙ q

module _ (shift a w : ℕ) where
  pub misaligned : not (eqb (ppn_of w % 2 ^ (shift - 12)) 0) ≡ true → Err Misaligned ≡ leaf_is shift a w
  unfolding leaf_is bad_if
  misaligned e = rw e

  pub leaf : not (eqb (ppn_of w % 2 ^ (shift - 12)) 0) ≡ false → Ok (Leaf (record { raw = w; at = a })) ≡ leaf_is shift a w
  unfolding leaf_is bad_if
  leaf e = rw e

  pub invalid : not (valid_bit w) ≡ true → Err Invalid ≡ entry_is shift a w
  unfolding entry_is bad_if
  invalid e = rw e

  pub write_only : not (valid_bit w) ≡ false → reserved (perms_of w) ≡ true → Err WriteOnly ≡ entry_is shift a w
  unfolding entry_is bad_if
  write_only e r = rw (e, r)

  module _ (e : not (valid_bit w) ≡ false) (r : reserved (perms_of w) ≡ false) where
    pub high_bits_lem : high_bits w ≡ true → Err HighBits ≡ entry_is shift a w
    unfolding entry_is bad_if
    high_bits_lem h = rw (e, r, h)

    pub is_leaf_lem : high_bits w ≡ false → leaf_of w ≡ true → leaf_is shift a w ≡ entry_is shift a w
    unfolding entry_is bad_if
    is_leaf_lem h l = rw (e, r, h, l)

    pub is_table : high_bits w ≡ false → leaf_of w ≡ false → Ok (Table (ppn_of w)) ≡ entry_is shift a w
    unfolding entry_is bad_if
    is_table h l = rw (e, r, h, l)

module _ (f : Format) (ram : List ℕ) (shift a : ℕ) where
  pub unreadable : readable f.space f.bytes ram a ≡ false → Err Unreadable ≡ met_at f ram shift a
  unfolding met_at bad_if
  unreadable e = rw e

  pub is_entry : readable f.space f.bytes ram a ≡ true → entry_is shift a (le_at f.bytes ram a) ≡ met_at f ram shift a
  unfolding met_at bad_if
  is_entry e = rw e

module _ (f : Format) (ram : List ℕ) (va offset : ℕ) (ws : List ℕ) (root : ℕ) where
  pub wrong_top : top_ok f va ≡ false → ended (Err WrongTop) (shift_of offset ws 0) 0 ≡ descent_in f ram va offset ws root
  unfolding descent_in
  wrong_top e = rw e

  pub right_top : top_ok f va ≡ true → seek f ram va offset ws 0 root ≡ descent_in f ram va offset ws root
  unfolding descent_in
  right_top e = rw e
