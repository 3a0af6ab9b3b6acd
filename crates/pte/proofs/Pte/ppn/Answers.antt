-- `Pte::ppn`: a shift and a mask are the field of 44 bits.
use Prim.Native.Nat.{◌/◌, ◌^◌}
use lib.Bits.{and_mask}
use Rattle.pte.proofs.Pte.ppn.Goals as goal

pub returns : goal.returns
returns c = and_mask (c.args.self.raw / 2 ^ 10) 44
