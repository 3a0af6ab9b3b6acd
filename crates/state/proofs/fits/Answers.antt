-- `fits`: where the classes are given out the scheme is valid, and the tests left are the definition's.
use Rattle.std.proofs.Common.{rules, arith, ◌≡◌, ◌∙◌, sym, ap, true, length, take}
use Rattle.scheme.specs.Scheme.{valid_of, classes, widths_of}
use Rattle.scheme.specs.declared.LeafMasks.{LeafMasks}
use Rattle.scheme.proofs.Widths.{valid}
use Rattle.state.specs.State.{alike, fit_of}
use Rattle.state.proofs.Alike.{alike_is}
use Rattle.state.proofs.Fitness.{masks_of, no_masks, not_valid, classes_back}
use Rattle.state.proofs.fits.Goals.{In-Ok, After-eq-same}
use Rattle.state.proofs.fits.Goals as goal

pub returns-in_default : goal.returns-in_default
returns-in_default c = not_valid _ (no_masks _ _ (sym c.in_default.ensures))

valid_now : (c : In-Ok) → valid_of c.args.m.scheme ≡ true
valid_now c = (masks_of _ _ (sym c.in-Ok.ensures)).0

pub shared_ref_as_front-eq : goal.shared_ref_as_front-eq
shared_ref_as_front-eq c = omega (arith, (valid _ (valid_now (goal.at.shared_ref_as_front-eq c).In-Ok)).four, c.from-levels.ensures)

-- the slices hold the classes of both sides
same : (c : After-eq-same) → valid_of c.args.m.scheme ≡ true → c.eq-same.result ≡ alike (take c.args.m.scheme.levels c.args.m.tlb.superpage_masks) (classes (widths_of c.args.m.scheme))
same c v =
    let s = c.args.m.scheme in
    let four : length s.level_bits ≡ 4 = search rules in
    let back = classes_back s (omega (arith, (valid s v).four)) in
    let k = ap (λ (x : LeafMasks). x.masks) (masks_of s _ (sym c.in-Ok.ensures)).1 in
    rw (c.from-levels.ensures, k, back) at c.eq-same.ensures ∙ alike_is _ _

pub returns-then-m-levels : goal.returns-then-m-levels
unfolding fit_of
returns-then-m-levels c =
    let v = valid_now (goal.at.returns-then-m-levels c).In-Ok in
    let e = same (goal.at.returns-then-m-levels c).After-eq-same v in
    search rules

pub returns-else-m-levels : goal.returns-else-m-levels
unfolding fit_of
returns-else-m-levels c =
    let v = valid_now (goal.at.returns-else-m-levels c).In-Ok in
    search rules
