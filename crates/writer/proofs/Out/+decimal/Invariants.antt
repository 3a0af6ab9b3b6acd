-- The number falls with every digit.
use Rattle.writer.proofs.Out.+decimal.Given as goal

abbrev pub decreases-decimal : goal.decreases-decimal
decreases-decimal l = l.x
