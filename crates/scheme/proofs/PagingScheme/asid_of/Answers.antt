-- `asid_of`: the field that the scheme's format places, which fits 16 bits.
use Prim.Native.Nat.{◌≤◌}
use native.Mathlib.Omega.{arith}
use mathlib.Core.Path.{ap, subst⁻¹, ◌∙◌}
use lib.Pow.{pow_mono}
use Rattle.bits.specs.Bits.{field_of}
use Rattle.scheme.specs.Satp.{asid_in}
use Rattle.scheme.specs.declared.Format.{Format}
use Rattle.scheme.proofs.Levels.{modest}
use Rattle.scheme.proofs.PagingScheme.asid_of.Goals as goal

pub overflow_cast-result : goal.overflow_cast-result
overflow_cast-result c =
    let few = subst⁻¹ (λ (f : Format). f.asid_bits ≤ 16) c.format-f.ensures (modest _).named in
    record { fits = omega (arith, c.field-n.ensures.1, pow_mono few) }

pub returns : goal.returns
unfolding asid_in
returns c = c.field-n.ensures.0 ∙ ap (λ (f : Format). field_of f.asid_at f.asid_bits c.args.satp.raw) c.format-f.ensures
