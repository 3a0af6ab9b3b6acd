-- `Out::hex` meets its contract: what is stored and the digits that are left, stored in front, are all eight.
use Rattle.std.proofs.Common.{◌≡◌, length}
use lib.Seq.{sets}
use Rattle.writer.specs.Digits.{hex_digits, hex_of}
use Rattle.writer.proofs.Out.hex.Given as goal

abbrev pub invariant-loop-i : goal.invariant-loop-i
invariant-loop-i l =
    (l.self.at ≡ l.initial.self.at) × (l.self.buf.ghost_name ≡ l.initial.self.buf.ghost_name) × (length l.self.buf.now ≡ length l.initial.self.buf.now)
    × (sets l.self.buf.now l.initial.self.at (hex_digits l.i l.n) ≡ sets l.initial.self.buf.now l.initial.self.at (hex_of l.x))
