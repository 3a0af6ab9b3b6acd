-- Numbers of two, four and eight bytes, as std's `from_le_bytes` reads them.
use Rattle.std.proofs.Common.{◌≡◌, ℕ, ◌+◌, ◌<◌, List, get_or, add-zero, add_assoc, arith}
use Rattle.std.proofs.Math.Seq.{slice}
use Rattle.std.proofs.lemmas.List.{get_or-take, get_or-drop}
use Rattle.std.specs.Int.{w16, w32, w64, from_le_bytes}
use Rattle.memory.specs.Word.{le_at}

module _ (s : List ℕ) (at : ℕ) where
  byte : (n k : ℕ) → k < n → get_or (slice at (at + n) s) k 0 ≡ get_or s (at + k) 0
  byte n k h = grind (arith, get_or-drop, get_or-take)

  pub two : from_le_bytes w16 (slice at (at + 2) s) ≡ le_at 2 s at
  unfolding le_at
  two = rw (byte 2 0 (omega arith), byte 2 1 (omega arith), add-zero at) (omega arith)

  pub four : from_le_bytes w32 (slice at (at + 4) s) ≡ le_at 4 s at
  unfolding le_at
  four = rw (byte 4 0 (omega arith), byte 4 1 (omega arith), byte 4 2 (omega arith), byte 4 3 (omega arith), add-zero at) (simp add_assoc (omega arith))

  pub eight : from_le_bytes w64 (slice at (at + 8) s) ≡ le_at 8 s at
  unfolding le_at
  eight =
      rw (
        byte 8 0 (omega arith),
        byte 8 1 (omega arith),
        byte 8 2 (omega arith),
        byte 8 3 (omega arith),
        byte 8 4 (omega arith),
        byte 8 5 (omega arith),
        byte 8 6 (omega arith),
        byte 8 7 (omega arith),
        add-zero at,
      )
      (simp add_assoc (omega arith))
