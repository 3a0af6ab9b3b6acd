-- `text::put_refused` meets its contract: a refusal's number has at most two digits.
use mathlib.Core.Path.{◌∙◌}
use Rattle.std.proofs.Common.{arith}
use Rattle.text.proofs.Numbers.{refusal_digits}
use Rattle.writer.proofs.Wrotes.{then, within}
use Rattle.text.proofs.put_refused.Goals as goal

pub told-requires : goal.told-requires
told-requires c =
    omega (arith, refusal_digits _ c.args.why (c.from.ensures ∙ c.number-number.ensures))

pub bytes-requires : goal.bytes-requires
bytes-requires c =
    omega (arith, refusal_digits _ c.args.why (c.from.ensures ∙ c.number-number.ensures))

pub returns : goal.returns
returns c =
    rw (← c.number-number.ensures, ← c.from.ensures)
    (within (omega (arith, refusal_digits _ c.args.why (c.from.ensures ∙ c.number-number.ensures)))
    (then c.told.ensures c.bytes.ensures))
