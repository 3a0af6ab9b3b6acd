-- `Out::bytes` meets its contract: a part that is overwritten is so many stores in a row.
use Rattle.std.proofs.Common.{◌≡◌, ℕ, ◌+◌, ◌-◌, ◌≤◌, List, length, refl, append_assoc, arith}
use Rattle.std.proofs.Math.Seq.{sets, drop-drop}
use Rattle.std.proofs.lemmas.List.Edits.{sets-eq}
use borrow.Rule.Slice.PartMut.{put_mid}
use Rattle.writer.proofs.Wrotes.{wrote}
use Rattle.writer.proofs.Out.bytes.Goals as goal

stored : (l : List ℕ) (at : ℕ) (ys : List ℕ) → at + length ys ≤ length l → put_mid at (at + length ys - at) l ys ≡ sets l at ys
stored l at ys h =
    let e : at + length ys - at ≡ length ys = omega arith in
    rw (sets-eq ys l at h, e, drop-drop (length ys) at l, append_assoc)

pub returns : goal.returns
returns c =
    let o = c.args.self.now in
    wrote refl (record {
      next = refl;
      room = omega arith;
      bytes = rw c.copy_from_slice.ensures.after (stored o.buf.now o.at c.args.s.now c.requires);
    })
