-- `classes`: the classes of the levels passed are written, lowest first, and `below` is the sum of their widths.
use Rattle.std.proofs.Common.{◌≡◌, ◌-◌, drop}
use Rattle.scheme.specs.Scheme.{total, widths_of, classes, padded}
use Rattle.scheme.proofs.PagingScheme.classes.Given as goal

abbrev pub invariant-loop-i : goal.invariant-loop-i
invariant-loop-i l =
    (l.masks ≡ padded (classes (drop (l.n - l.i) (widths_of l.self))))
    × (l.below ≡ total (drop (l.n - l.i) (widths_of l.self)))
