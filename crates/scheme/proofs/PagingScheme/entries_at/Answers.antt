-- `entries_at`: the width of a known level is at most 12, so a shift of 1 by it is the power of two.
use Rattle.std.proofs.Common.{◌≡◌, true, arith, rules, length, sym}
use Rattle.std.proofs.lemmas.Grind.{common_steps}
use Rattle.scheme.specs.Refusals.{asked}
use Rattle.scheme.specs.Scheme.{known_level, entries_at}
use Rattle.scheme.proofs.Levels.{known_valid, known_below, width_high, one_width}
use Rattle.scheme.proofs.Answered.{granted, passed}
use Rattle.scheme.proofs.PagingScheme.entries_at.Goals.{In_ok-known}
use Rattle.scheme.proofs.PagingScheme.entries_at.Goals as goal

known : (c : In_ok-known) → known_level c.args.self c.args.level ≡ true
known c = passed _ _ (sym c.in_ok-known.ensures)

long : (c : In_ok-known) → length c.args.self.level_bits ≡ 4
long c = search rules

pub returns-in_err-known : goal.returns-in_err-known
unfolding entries_at asked
returns-in_err-known c = grind (arith, common_steps)

pub bounds-self-from : goal.bounds-self-from
bounds-self-from c = omega (arith, c.from.ensures, known_below _ _ (known (goal.at.bounds-self-from c).In_ok-known), (known_valid _ _ (known (goal.at.bounds-self-from c).In_ok-known)).four)

pub overflow_shl-result : goal.overflow_shl-result
overflow_shl-result c =
    let k = (goal.at.overflow_shl-result c).In_ok-known in
    rw c.from.ensures (omega (arith, width_high _ (long k) (known_valid _ _ (known k)) _ (known_below _ _ (known k))))

pub returns : goal.returns
unfolding entries_at
returns c =
    let k = (goal.at.returns c).In_ok-known in
    rw c.from.ensures (granted _ _ _ (known k) (one_width _ (long k) (known_valid _ _ (known k)) _ (known_below _ _ (known k))))
