-- `build_paddr`: the frame's address, with its low bits taken from the other.
use Prim.Native.Nat.{ℕ}
use mathlib.Core.Path.{ap, ◌∙◌}
use Rattle.bits.specs.Bits.{with_low}
use Rattle.walk.proofs.build_paddr.Goals as goal

pub returns : goal.returns
returns c = c.with_low.ensures ∙ ap (λ (n : ℕ). with_low c.args.page_bits n c.args.vaddr) c.frame_of.ensures.0
