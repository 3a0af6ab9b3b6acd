-- RAM stays bytes when a byte of it, or a word, is written.
use Prim.Native.Nat.{ℕ, zero, suc, ◌+◌, ◌/◌, ◌%◌, ◌<◌}
use native.Mathlib.Decide.{ℕ_discrete, dec_lt}
use native.Mathlib.Omega.{arith}
use mathlib.Core.Path.{◌≡◌}
use mathlib.Core.List.{List}
use lib.ListN.{length, get_or, set}
use lib.Seq.{get_or-set_same, get_or-set_other, set_out}
use Rattle.memory.specs.Word.{put_at}
use Rattle.walks.specs.Plain.{Bytes}

pub set_bytes : (ram : List ℕ) (a v : ℕ) → v < 256 → Bytes ram → Bytes (set ram a v)
set_bytes ram a v byte small k = go (dec_lt a (length ram)) (ℕ_discrete k a)
  where
    go : Dec (a < length ram) → Dec (k ≡ a) → get_or (set ram a v) k 0 < 256
    go (yes h) (yes e) = rw (e, get_or-set_same ram a v 0 h) byte
    go (no n) (yes e) = rw (set_out ram a v (omega arith)) (small k)
    go d (no n) = rw (get_or-set_other ram a k v 0 n) (small k)

pub put_bytes_lem : (n : ℕ) (ram : List ℕ) (a v : ℕ) → Bytes ram → Bytes (put_at n ram a v)
unfolding put_at
put_bytes_lem zero ram a v small = small
put_bytes_lem (suc n) ram a v small = put_bytes_lem n (set ram a (v % 256)) (a + 1) (v / 256) (set_bytes ram a (v % 256) (omega arith) small)
