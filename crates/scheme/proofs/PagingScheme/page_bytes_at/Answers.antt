-- `page_bytes_at`: the shift of a known level is below 32, so a shift of 1 by it is the power of two.
use Rattle.std.proofs.Common.{◌≡◌, ◌<◌, ◌^◌, ℕ, true, arith, rules, length, sym, ap, ◌∙◌}
use Rattle.std.proofs.lemmas.Grind.{common_steps}
use Rattle.bits.proofs.Masks.{one_shl}
use Rattle.scheme.specs.Refusals.{asked}
use Rattle.scheme.specs.Scheme.{known_level, page_bytes_at, shift_of, widths_of}
use Rattle.scheme.proofs.Levels.{known_valid, known_below, shift_high}
use Rattle.scheme.proofs.Answered.{granted, passed}
use Rattle.scheme.proofs.PagingScheme.page_bytes_at.Goals.{In_ok-known}
use Rattle.scheme.proofs.PagingScheme.page_bytes_at.Goals as goal

known : (c : In_ok-known) → known_level c.args.self c.args.level ≡ true
known c = passed _ _ (sym c.in_ok-known.ensures)

-- so its shift is below 32
few : (c : In_ok-known) → shift_of c.args.self.offset_bits (widths_of c.args.self) c.args.level < 32
few c =
    let a = c.args in
    let e = known c in
    let four : length a.self.level_bits ≡ 4 = search rules in
    shift_high a.self four (known_valid _ _ e) a.level (known_below _ _ e)

pub returns-in_err-known : goal.returns-in_err-known
unfolding page_bytes_at asked
returns-in_err-known c = grind (arith, common_steps)

pub overflow_shl-result : goal.overflow_shl-result
overflow_shl-result c = omega (arith, c.shift_below.ensures, few (goal.at.overflow_shl-result c).In_ok-known)

pub returns : goal.returns
unfolding page_bytes_at
returns c =
    let power = one_shl 64 c.shift_below.result (omega (arith, c.shift_below.ensures, few (goal.at.returns c).In_ok-known)) in
    granted _ _ _ (known (goal.at.returns c).In_ok-known) (power ∙ ap (λ (k : ℕ). 2 ^ k) c.shift_below.ensures)
