-- `entry_at`: a frame's address and an index of at most 12 bits in entries of at most 8 bytes do not wrap before the cut.
use Prim.Native.Nat.{ℕ, ◌+◌, ◌*◌, ◌%◌, ◌^◌, ◌<◌, ◌≤◌}
use mathlib.Core.Path.{◌∙◌, ap}
use native.Mathlib.Omega.{arith}
use native.Mathlib.Nat.{mul-le-mul}
use lib.Pow.{pow_mono}
use Rattle.walker.specs.Descent.{frame, place, entry_at}
use Rattle.walker.proofs.entry_at.Goals.{After-struct_known-1}
use Rattle.walker.proofs.entry_at.Goals as goal

-- the index in bytes, and the frame's address
index : (c : After-struct_known-1) → c.args.f.bytes * c.low_bits-index.result ≤ 32768
index c =
    let few : c.low_bits-index.result ≤ 4096 = omega (arith, c.low_bits-index.ensures.1, pow_mono c.requires.2) in
    mul-le-mul c.requires.0.short few

frame_low : (c : After-struct_known-1) → c.frame_of-start.result < 2 ^ 56
frame_low c = omega (arith, c.frame_of-start.ensures.1, pow_mono c.requires.0.narrow)

pub overflow_mul-end : goal.overflow_mul-end
overflow_mul-end c = omega (arith, index c)

pub overflow_add-end : goal.overflow_add-end
overflow_add-end c = omega (arith, index c, frame_low c)

pub returns : goal.returns
unfolding entry_at place
returns c =
    let a = c.args in
    c.low_bits.ensures.0
    ∙ ap (λ (n : ℕ). (n + a.f.bytes * c.low_bits-index.result) % 2 ^ a.f.space) c.frame_of-start.ensures.0
    ∙ ap (λ (n : ℕ). (frame a.f a.table + a.f.bytes * n) % 2 ^ a.f.space) c.low_bits-index.ensures.0
