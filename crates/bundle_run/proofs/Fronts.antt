-- The start of a buffer, and the bytes of the file that go there.
use mathlib.Core.Path.{◌≡◌}
use mathlib.Core.List.{List, ◌++◌}
use Prim.Native.Nat.{ℕ, ◌+◌, ◌-◌, ◌≤◌}
use native.Mathlib.Omega.{arith}
use lib.ListN.{length, take, drop, length-drop}
use lib.Seq.{sets, sets-eq, length-take-le}
use Rattle.bundle.specs.declared.Parts.{Parts}
use Rattle.bundle_run.specs.Parts.{given_ram, Within}

-- a buffer whose first n bytes are ys
pub front : (xs ys : List ℕ) (n : ℕ) → length ys ≡ n → n ≤ length xs → ys ++ drop n xs ≡ sets xs 0 ys
front xs ys n e h =
    let z : 0 + length ys ≡ n = omega arith in
    rw (sets-eq ys xs 0 (omega arith), z)

-- the bytes from a place on, by the place after them
pub between : (s : List ℕ) (start len : ℕ) → take (start + len - start) (drop start s) ≡ take len (drop start s)
between s start len =
    let z : start + len - start ≡ len = omega arith in
    rw z

pub given_length : {s : List ℕ} {p : Parts} → Within s p → length (given_ram s p) ≡ p.ram_len
given_length {s} {p} h = length-take-le p.ram_len (drop p.ram_start s) (omega (arith, h.ram, length-drop p.ram_start s))
