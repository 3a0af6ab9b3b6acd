-- `answer_text::put_fault` meets its contract: so has a cause.
use Rattle.std.proofs.Common.{arith}
use Rattle.writer.proofs.Decimals.{three}
use Rattle.writer.proofs.Wrotes.{then, within}
use Rattle.answer_text.proofs.put_fault.Goals as goal

pub returns : goal.returns
returns c = rw (← c.from.ensures) (within (grind (arith, three)) (then c.hex.ensures (then c.told.ensures c.bytes.ensures)))
