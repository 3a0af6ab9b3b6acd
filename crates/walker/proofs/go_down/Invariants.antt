-- `go_down`: after each level what is left to seek is what was asked for.
use Prim.Native.Nat.{◌+◌, ◌≤◌}
use mathlib.Core.Path.{◌≡◌}
use mathlib.Core.Bool.{true}
use lib.ListN.{drop}
use Rattle.scheme.specs.Scheme.{total, ok_widths, widths_of}
use Rattle.walker.specs.Descent.{seek}
use Rattle.walker.proofs.go_down.Given as goal

abbrev pub invariant-loop-level : goal.invariant-loop-level
invariant-loop-level l =
    (l.shift ≤ 39)
    × (l.shift ≡ l.scheme.offset_bits + total (drop l.level (widths_of l.scheme)))
    × (ok_widths (drop l.level (widths_of l.scheme)) ≡ true)
    × (seek l.f l.ram l.vaddr l.scheme.offset_bits (drop l.level (widths_of l.scheme)) l.level l.table
    ≡ seek l.f l.ram l.vaddr l.scheme.offset_bits (widths_of l.scheme) 0 l.root)
