-- `put_entry`: its five parts in a row.
use Rattle.std.specs.Int.{w16, w32, w64}
use Rattle.writer.proofs.Wrotes.{then}
use Rattle.entry_image.specs.EntryImage.{entry_image}
use Rattle.entry_image.proofs.Bytes.{number}
use Rattle.entry_image.proofs.put_entry.Goals as goal

pub returns : goal.returns
unfolding entry_image
returns c =
    let e = c.args.e in
    rw (← c.flag.ensures.0, ← c.entry_flags.ensures)
    (then (number w64 e.vpn c.to_le_bytes.ensures c.bytes.ensures)
    (then (number w64 e.ppn c.to_le_bytes-2.ensures c.bytes-2.ensures)
    (then (number w32 e.age c.to_le_bytes-3.ensures c.bytes-3.ensures)
    (then (number w16 e.asid c.to_le_bytes-4.ensures c.bytes-4.ensures) c.bytes-5.ensures))))
