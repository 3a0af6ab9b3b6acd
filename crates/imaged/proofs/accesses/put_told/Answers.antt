-- `imaged::accesses::put_told`: three numbers, one after another.
use Rattle.std.specs.Int.{w32, w64}
use Rattle.writer.proofs.Wrotes.{then}
use Rattle.entry_image.proofs.Bytes.{number}
use Rattle.imaged.specs.Accesses.{told_bytes}
use Rattle.imaged.proofs.accesses.put_told.Goals as goal

pub returns : goal.returns
unfolding told_bytes
returns c =
    let a = c.args in
    then (number w32 a.cause c.to_le_bytes.ensures c.bytes.ensures)
    (then (number w64 a.place c.to_le_bytes-2.ensures c.bytes-2.ensures) (number w32 a.words c.to_le_bytes-3.ensures c.bytes-3.ensures))
