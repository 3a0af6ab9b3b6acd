-- The marked word is written where it differs, and else RAM stays.
use Prim.Native.Nat.{ℕ}
use mathlib.Core.Path.{◌≡◌, sym, ◌∙◌}
use mathlib.Core.List.{List}
use borrow.Author.Tests.{eq-eqb, ne_eqb}
use Rattle.memory.specs.Word.{put_at}
use Rattle.scheme.specs.declared.access.AccessType.{AccessType}
use Rattle.scheme.specs.declared.Format.{Format}
use Rattle.walk.specs.Answer.{mark_of, mark_in}

module _ (f : Format) (kind : AccessType) (ram : List ℕ) (a w v : ℕ) (is : v ≡ mark_of kind w) where
  pub mark_put : (v ≡ w → ⊥) → put_at f.bytes ram a v ≡ mark_in f kind ram a w
  unfolding mark_in
  mark_put h = rw (is, ne_eqb (mark_of kind w) w (λ e. h (is ∙ e)))

  pub mark_keep : v ≡ w → ram ≡ mark_in f kind ram a w
  unfolding mark_in
  mark_keep h = rw (eq-eqb (mark_of kind w) w (sym is ∙ h))
