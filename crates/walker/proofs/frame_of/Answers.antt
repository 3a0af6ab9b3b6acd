-- `frame_of`: the shift by 12 keeps 64 bits, and the cut no more than 56 of them.
use native.Mathlib.Omega.{arith}
use mathlib.Core.Path.{◌∙◌}
use Rattle.bits.proofs.Masks.{cut}
use Rattle.walker.specs.Descent.{frame}
use Rattle.walker.proofs.frame_of.Goals as goal

pub returns : goal.returns
unfolding frame
returns c =
    let f = c.args.f in
    (c.low_bits.ensures.0 ∙ cut _ f.space (omega (arith, c.requires.narrow)), c.low_bits.ensures.1)
