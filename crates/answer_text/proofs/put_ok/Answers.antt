-- `answer_text::put_ok` meets its contract: a stall has at most three digits.
use Rattle.std.proofs.Common.{arith}
use Rattle.writer.proofs.Decimals.{three}
use Rattle.writer.proofs.Wrotes.{then, within}
use Rattle.answer_text.proofs.put_ok.Goals as goal

pub returns : goal.returns
returns c =
    rw (← c.from.ensures)
    (within (grind (arith, three))
    (then c.hex.ensures (then c.bytes.ensures (then c.hex-2.ensures (then c.told.ensures c.bytes-2.ensures)))))
