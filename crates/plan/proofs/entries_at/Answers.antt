-- `entries_at`: the width of a level is at most 12, so a shift of 1 by it is the power of two.
use native.Mathlib.Omega.{arith}
use native.Mathlib.Nat.{one-mul}
use mathlib.Core.Path.{sym, ap, ◌∙◌}
use Prim.Native.Nat.{ℕ, ◌^◌, ◌≤◌, ◌<◌}
use lib.Dec.{lit<}
use lib.ListN.{get_or}
use lib.Pow.{shl_exact}
use Rattle.scheme.proofs.Levels.{width_at_lem, width_high}
use Rattle.plan.proofs.Laws.{is_valid, entries_bound}
use Rattle.plan.proofs.entries_at.Goals.{After-w-1}
use Rattle.plan.proofs.entries_at.Goals as goal

pub bounds-s-i : goal.bounds-s-i
bounds-s-i c = omega (arith, c.requires.1, (is_valid _ c.requires.0).four)

high : (c : After-w-1) → get_or c.args.s.level_bits c.args.level 0 ≤ 12
high c =
    width_high _ c.requires.0.array (is_valid _ c.requires.0) _ c.requires.1

pub overflow_shl-result : goal.overflow_shl-result
overflow_shl-result c = omega (arith, high c)

pub returns : goal.returns
returns c =
    let w = get_or c.args.s.level_bits c.args.level 0 in
    let small : w < 63 = omega (arith, high c) in
    let is = shl_exact 1 w 64 (lit< tt) (omega arith) ∙ one-mul (2 ^ w) ∙ ap (λ (k : ℕ). 2 ^ k) (sym (width_at_lem _ c.requires.0.array (is_valid _ c.requires.0) _ c.requires.1)) in
    (is, omega (arith, is, entries_bound _ c.requires.0 _ c.requires.1))
