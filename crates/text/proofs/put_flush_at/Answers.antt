-- `text::put_flush_at` meets its contract.
use Rattle.std.proofs.Common.{arith}
use Rattle.writer.proofs.Wrotes.{then, within}
use Rattle.text.proofs.put_flush_at.Goals as goal

pub returns : goal.returns
returns c = within (omega arith) (then c.bytes.ensures (then c.hex.ensures c.bytes-2.ensures))
