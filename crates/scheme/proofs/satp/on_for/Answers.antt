-- `on_for`: the three fields share no bit, so `|` adds them (`Pack`).
use Rattle.scheme.proofs.Pack.{placed, joins}
use Rattle.scheme.proofs.satp.on_for.Goals as goal

pub overflow_shl-mode : goal.overflow_shl-mode
overflow_shl-mode c = rw c.format-f.ensures (placed c.args.scheme).0

pub overflow_shl-asid : goal.overflow_shl-asid
overflow_shl-asid c = rw c.format-f.ensures (placed c.args.scheme).1

pub returns : goal.returns
returns c =
    rw (
      c.low_bits.ensures.0,
      c.low_bits-2.ensures.0,
      c.from.ensures,
      c.from-2.ensures,
      c.from-3.ensures,
      c.from-4.ensures,
      c.format-f.ensures,
    )
    (joins c.args.root_pa c.args.asid c.ranges.asid.fits c.args.scheme)
