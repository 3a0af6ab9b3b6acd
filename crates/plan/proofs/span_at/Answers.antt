-- `span_at`: the shift is at most 32, so a shift of 1 by it is the power of two.
use native.Mathlib.Omega.{arith}
use native.Mathlib.Nat.{one-mul}
use native.Mathlib.Numerals.{add-one}
use mathlib.Core.Path.{◌≡◌, ap, ◌∙◌}
use Prim.Native.Nat.{ℕ, ◌+◌, ◌^◌, ◌≤◌}
use lib.Dec.{lit<}
use lib.Pow.{shl_exact, pow_pos, pow_mono}
use Rattle.scheme.specs.Scheme.{shift_of}
use Rattle.plan.specs.Map.{shift}
use Rattle.plan.specs.Levels.{below}
use Rattle.plan.proofs.Laws.{bits_from_lem}
use Rattle.plan.proofs.span_at.Goals.{After-shift_below-bits}
use Rattle.plan.proofs.span_at.Goals as goal

-- the scheme's shift is the plan's
is_shift : (c : After-shift_below-bits) → c.shift_below-bits.result ≡ shift c.args.p (below c.args.p c.args.level)
unfolding shift_of
is_shift c = c.shift_below-bits.ensures ∙ rw add-one

small : (c : After-shift_below-bits) → c.shift_below-bits.result ≤ 32
small c =
    omega (arith, is_shift c, bits_from_lem c.args.p.scheme c.requires.0.fit (c.args.level + 1))

pub overflow_shl-result : goal.overflow_shl-result
overflow_shl-result c = omega (arith, small c)

pub returns : goal.returns
returns c =
    let k = c.shift_below-bits.result in
    let low = small c in
    let is = shl_exact 1 k 64 (lit< tt) (omega arith) ∙ one-mul (2 ^ k) in
    (is ∙ ap (λ (n : ℕ). 2 ^ n) (is_shift c), omega (arith, is, pow_pos k), omega (arith, is, pow_mono {j = 32} low))
