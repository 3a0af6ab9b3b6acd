-- `imaged::accesses::put_answer`: what a walk tells too, and then the stall.
use Rattle.std.specs.Int.{w32}
use Rattle.writer.proofs.Wrotes.{then}
use Rattle.entry_image.proofs.Bytes.{number}
use Rattle.imaged.proofs.accesses.put_answer.Goals as goal

pub returns : goal.returns
returns c = then c.put_told.ensures (number w32 c.args.stall (rw c.from.ensures at c.to_le_bytes.ensures) c.bytes.ensures)
