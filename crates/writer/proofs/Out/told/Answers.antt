-- `Out::told` meets its contract: the word, then the number.
use Rattle.writer.proofs.Wrotes.{then}
use Rattle.writer.proofs.Out.told.Goals as goal

pub returns : goal.returns
returns c = then c.bytes.ensures c.decimal.ensures
