-- `entry_is`: its tests in their order are those of `entry_is`.
use Rattle.std.specs.Prelude.{Ok}
use mathlib.Core.Path.{◌≡◌, ◌∙◌, ap}
use mathlib.Core.Bool.{false, not}
use Rattle.pte.specs.Entry.{valid_bit, perms_of, reserved, high_bits}
use Prim.Native.Nat.{ℕ}
use Rattle.walker.specs.declared.Met.TheVariants.{Table}
use Rattle.walker.proofs.Cases.{said, invalid, write_only, high_bits_lem, is_leaf_lem, is_table}
use Rattle.walker.proofs.entry_is.Goals.{Else-high, Else-is_reserved, Else-not-valid}
use Rattle.walker.proofs.entry_is.Goals as goal

-- what each test that failed says of the word
valid_said : (c : Else-not-valid) → not (valid_bit c.args.pte.raw) ≡ false
valid_said c = said (ap not c.valid.ensures) c.if-not-valid.false-raw

reserved_said : (c : Else-is_reserved) → reserved (perms_of c.args.pte.raw) ≡ false
reserved_said c = said (c.is_reserved.ensures ∙ ap reserved c.perms.ensures) c.if-is_reserved.false

pub returns-then-not-valid : goal.returns-then-not-valid
returns-then-not-valid c = invalid _ _ _ (said (ap not c.valid.ensures) c.if-not-valid.true-raw)

pub returns-then-is_reserved : goal.returns-then-is_reserved
returns-then-is_reserved c = write_only _ _ _ (valid_said (goal.at.returns-then-is_reserved c).Else-not-valid) (said (c.is_reserved.ensures ∙ ap reserved c.perms.ensures) c.if-is_reserved.true)

pub returns-then-high : goal.returns-then-high
returns-then-high c =
    high_bits_lem _ _ _ (valid_said (goal.at.returns-then-high c).Else-not-valid) (reserved_said (goal.at.returns-then-high c).Else-is_reserved) (said c.high.ensures c.if-high.true)

high_said : (c : Else-high) → high_bits c.args.pte.raw ≡ false
high_said c = said c.high.ensures c.if-high.false

pub returns-then-is_leaf : goal.returns-then-is_leaf
returns-then-is_leaf c =
    c.leaf_is.ensures ∙ is_leaf_lem _ _ _ (valid_said (goal.at.returns-then-is_leaf c).Else-not-valid) (reserved_said (goal.at.returns-then-is_leaf c).Else-is_reserved) (high_said (goal.at.returns-then-is_leaf c).Else-high) (said c.is_leaf.ensures c.if-is_leaf.true)

pub returns : goal.returns
returns c =
    ap (λ (n : ℕ). Ok (Table n)) c.ppn.ensures ∙ is_table _ _ _ (valid_said (goal.at.returns c).Else-not-valid) (reserved_said (goal.at.returns c).Else-is_reserved) (high_said (goal.at.returns c).Else-high) (said c.is_leaf.ensures c.if-is_leaf.false)
