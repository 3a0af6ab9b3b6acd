-- `descend`: the top's test, then the way down; a scheme's format is modest.
use Rattle.std.specs.Prelude.{Err}
use mathlib.Core.Path.{◌≡◌, subst⁻¹, ap, ◌∙◌}
use Prim.Native.Nat.{ℕ}
use borrow.Author.Tests.{not-true, not-false}
use Rattle.scheme.specs.Scheme.{Modest, format_of, widths_of}
use Rattle.scheme.specs.declared.Format.{Format}
use Rattle.scheme.proofs.Levels.{modest}
use Rattle.walker.specs.Descent.{ended, seek, top_ok, descent_of}
use Rattle.walker.specs.declared.Reason.TheVariants.{WrongTop}
use Rattle.walker.proofs.Cases.{said, wrong_top, right_top}
use borrow.Author.Rules.{rules}
use Rattle.walker.proofs.descend.Goals.{After-top_ok}
use Rattle.walker.proofs.descend.Goals as goal

top_said : (c : After-top_ok) → c.top_ok.result ≡ top_ok (format_of c.args.scheme) c.args.vaddr
top_said c = c.top_ok.ensures ∙ ap (λ (f : Format). top_ok f c.args.vaddr) c.format-f.ensures

pub returns-then-not-top_ok : goal.returns-then-not-top_ok
unfolding descent_of
returns-then-not-top_ok c =
    ap (λ (n : ℕ). ended (Err WrongTop) n 0) c.shift_below.ensures
    ∙ wrong_top _ _ _ _ _ _ (said (top_said (goal.at.returns-then-not-top_ok c).After-top_ok) (not-true _ c.if-not-top_ok.true-raw))

pub go_down-requires : goal.go_down-requires
go_down-requires c =
    (search rules, subst⁻¹ Modest c.format-f.ensures (modest _), c.total_bits.ensures)

pub returns : goal.returns
unfolding descent_of
returns c =
    let a = c.args in
    c.go_down.ensures
    ∙ ap (λ (f : Format). seek f a.ram.now a.vaddr a.scheme.offset_bits (widths_of a.scheme) 0 a.root) c.format-f.ensures
    ∙ right_top _ _ _ _ _ _ (said (top_said (goal.at.returns c).After-top_ok) (not-false _ c.if-not-top_ok.false-raw))
