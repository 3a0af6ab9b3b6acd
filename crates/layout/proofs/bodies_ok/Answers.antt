-- `bodies_ok`: the lengths hold (`Fits`), and so the bodies lie in the file.
use Rattle.std.proofs.Common.{arith}
use Rattle.layout.proofs.Fits.{head_fits}
use Rattle.layout.proofs.bodies_ok.Goals as goal

pub len_at-map-requires : goal.len_at-map-requires
len_at-map-requires c = omega (arith, (head_fits _ c.requires).whole)
