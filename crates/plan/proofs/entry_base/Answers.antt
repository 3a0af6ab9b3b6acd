-- `entry_base`: the entry's range lies in the 32 bits under both rules, so nothing wraps.
use native.Mathlib.Omega.{arith}
use native.Mathlib.Nat.{zero-add}
use mathlib.Core.Path.{◌≡◌, ap}
use Prim.Native.Nat.{ℕ, ◌+◌, ◌*◌, ◌^◌, ◌≤◌}
use Rattle.plan.specs.declared.MapRule.{MapRule}
use Rattle.plan.specs.declared.MapRule.TheVariants.{Relative, Absolute}
use Rattle.plan.specs.Map.{inherited}
use Rattle.plan.specs.Levels.{base_at}
use Rattle.plan.proofs.Laws.{entry_span, base_below}
use Rattle.plan.proofs.entry_base.Goals.{After-span_at}
use Rattle.plan.proofs.entry_base.Goals as goal

-- under either rule the base lies below the end of the table's range
small : (c : After-span_at) → c.args.parent + c.args.idx * c.span_at.result ≤ 2 ^ 32
small c =
    let e = c.requires in
    omega (arith, ap (λ (n : ℕ). c.args.idx * n) c.span_at.ensures.0, entry_span c.args.p.scheme e.is_at.good.fit c.args.level c.args.idx e.is_at.inside e.listed, e.is_at.range)

pub overflow_mul-own : goal.overflow_mul-own
overflow_mul-own c = omega (arith, small c)

pub overflow_add-result : goal.overflow_add-result
overflow_add-result c = omega (arith, small (goal.at.overflow_add-result c).After-span_at)

-- what the rule takes over, and the entry's own part
relative_is : (r : MapRule) (parent own own' : ℕ) → r ≡ Relative → own ≡ own' → own ≡ inherited r parent + own'
relative_is r parent own own' e g = rw (e, g, zero-add)

absolute_is : (r : MapRule) (parent own own' : ℕ) → r ≡ Absolute → own ≡ own' → parent + own ≡ inherited r parent + own'
absolute_is r parent own own' e g = rw (e, g)

pub returns-in-Relative : goal.returns-in-Relative
unfolding base_at
returns-in-Relative c =
    let is = relative_is c.args.p.rule c.args.parent _ _ c.in-Relative.is (ap (λ (n : ℕ). c.args.idx * n) c.span_at.ensures.0) in
    (is, omega (arith, is, base_below c.args.p c.args.level c.args.parent c.args.idx c.requires))

pub returns-in-Absolute : goal.returns-in-Absolute
unfolding base_at
returns-in-Absolute c =
    let is = absolute_is c.args.p.rule c.args.parent _ _ c.in-Absolute.is (ap (λ (n : ℕ). c.args.idx * n) c.span_at.ensures.0) in
    (is, omega (arith, is, base_below c.args.p c.args.level c.args.parent c.args.idx c.requires))
