-- `leaf_masks`: a valid scheme has its classes, and another the refusal.
use mathlib.Core.Path.{◌≡◌, sym, ◌∙◌}
use mathlib.Core.Bool.{true}
use borrow.Author.Rules.{rules}
use Rattle.scheme.specs.Scheme.{valid_of, leaf_masks}
use Rattle.scheme.proofs.PagingScheme.leaf_masks.Goals.{Then-is_valid}
use Rattle.scheme.proofs.PagingScheme.leaf_masks.Goals as goal

pub is_valid-requires : goal.is_valid-requires
is_valid-requires c = search rules

-- the test passed, so the scheme is valid
is_valid : (c : Then-is_valid) → valid_of c.args.self ≡ true
is_valid c = sym c.is_valid.ensures ∙ c.if-is_valid.true

pub classes-masks-requires : goal.classes-masks-requires
classes-masks-requires c = is_valid c

pub returns-then-is_valid : goal.returns-then-is_valid
unfolding leaf_masks
returns-then-is_valid c = rw (is_valid (goal.at.returns-then-is_valid c).Then-is_valid, c.classes-masks.ensures)

pub returns : goal.returns
unfolding leaf_masks
returns c = rw (sym c.is_valid.ensures ∙ c.if-is_valid.false)
