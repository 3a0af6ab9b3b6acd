-- `put_state`: its four parts in a row, where there is room.
use Rattle.std.proofs.Common.{refl, sym, le-leb, rules}
use Rattle.writer.proofs.Wrotes.{then, at_slice}
use Rattle.image.specs.Image.{image_of, put_state}
use Rattle.image.proofs.put_state.Goals as goal

pub returns : goal.returns
unfolding put_state image_of
returns c =
    let room = le-leb _ _ c.if-out-lt3416.false in
    let w = then c.put_head.ensures (then c.bytes.ensures (then c.bytes-2.ensures c.put_entries.ensures)) in
    let p = at_slice w (search rules) (search rules) (search rules) refl in
    (sym room, rw room p.bytes)
