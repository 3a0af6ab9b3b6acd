-- `put_head`: its five parts in a row.
use Rattle.std.proofs.Common.{◌≡◌, length, arith, rules}
use Rattle.std.specs.Int.{w16, w32, w64}
use Rattle.writer.proofs.Wrotes.{then, within, as_text}
use Rattle.entry_image.proofs.Bytes.{number}
use Rattle.image.specs.Image.{head_image}
use Rattle.image.proofs.put_head.Goals as goal

pub returns : goal.returns
unfolding head_image
returns c =
    let m = c.args.m in
    let long : length c.front.result ≡ 14 = search rules in
    let front = as_text (rw c.switches-on.ensures at c.front.ensures) c.bytes-2.ensures in
    within (omega (arith, long))
    (then (number w16 m.tlb.config.entry_count c.to_le_bytes.ensures c.bytes.ensures)
    (then front
    (then (number w64 m.satp.raw c.to_le_bytes-2.ensures c.bytes-3.ensures)
    (then (number w32 m.tlb.age_counter c.to_le_bytes-3.ensures c.bytes-4.ensures) c.put_words.ensures))))
