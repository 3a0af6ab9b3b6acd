-- `Out::hex` meets its contract: what is stored and the digits that are left, stored in front, are all eight.
use Rattle.std.proofs.Common.{◌≡◌, ◌∙◌, arith, rules}
use Rattle.writer.specs.Digits.{hex_digits}
use Rattle.writer.proofs.Stores.{hex_last, length_hex}
use Rattle.writer.proofs.Wrotes.{wrote}
use Rattle.writer.proofs.Out.hex.Goals as goal

pub loop-i-preserved : goal.loop-i-preserved
loop-i-preserved c =
    let l = c.loop-i in
    let h = l.invariant in
    (h.0, h.1, search rules, rw (c.digit.ensures, h.0) (hex_last l.self.buf.now c.args.self.now.at l.i l.n c.loop-i-test.true) ∙ h.3)

pub returns : goal.returns
unfolding hex_digits
returns c =
    let h = c.loop-i.invariant in
    let e : c.loop-i.i ≡ 0 = omega arith in
    wrote h.1 (record { next = omega (arith, h.0, length_hex 8 c.args.x); room = omega (arith, h.0); bytes = rw e at h.3 })
