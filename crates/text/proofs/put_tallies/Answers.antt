-- `text::put_tallies` meets its contract: a tally has at most twenty digits.
use Rattle.std.proofs.Common.{arith}
use Rattle.writer.proofs.Decimals.{twenty}
use Rattle.writer.proofs.Wrotes.{then, within}
use Rattle.text.proofs.put_tallies.Goals as goal

pub returns : goal.returns
returns c =
    within (grind (arith, twenty))
    (then c.told.ensures (then c.told-2.ensures (then c.told-3.ensures (then c.told-4.ensures c.bytes.ensures))))
