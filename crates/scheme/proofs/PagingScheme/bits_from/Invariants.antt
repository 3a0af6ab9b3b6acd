-- `bits_from`: the sum so far and the widths that are left come to what is asked for.
use Rattle.std.proofs.Common.{◌≡◌, ◌≤◌, ◌+◌, ◌*◌, drop}
use Rattle.scheme.specs.Scheme.{total, widths_of}
use Rattle.scheme.proofs.PagingScheme.bits_from.Given as goal

abbrev pub invariant-loop-i : goal.invariant-loop-i
invariant-loop-i l =
    (l.sum ≤ 255 + 255 * l.i) × (l.sum + total (drop l.i (widths_of l.self)) ≡ l.self.offset_bits + total (drop l.start (widths_of l.self)))
