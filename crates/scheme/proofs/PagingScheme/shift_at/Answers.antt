-- `shift_at`: a known level has its shift, and another the refusal.
use Rattle.std.proofs.Common.{arith}
use Rattle.std.proofs.lemmas.Grind.{common_steps}
use Rattle.scheme.specs.Refusals.{asked}
use Rattle.scheme.specs.Scheme.{shift_at}
use Rattle.scheme.proofs.PagingScheme.shift_at.Goals as goal

pub returns-in_err-known : goal.returns-in_err-known
unfolding shift_at asked
returns-in_err-known c = grind (arith, common_steps)

pub returns : goal.returns
unfolding shift_at asked
returns c = grind (arith, common_steps)
