-- What was read lies in the file, which buffers are long enough, and where a text ends.
use Rattle.std.specs.Prelude.{Err, Ok, Result}
use mathlib.Core.Path.{◌≡◌, refl}
use mathlib.Core.Bool.{Bool, true, false, ◌||◌}
use mathlib.Core.List.{List}
use Prim.Native.Nat.{ℕ, ◌≤◌}
use native.Mathlib.Omega.{arith}
use lib.Dec.{ltb}
use lib.ListN.{length}
use borrow.Author.Tests.{ltb-false}
use Rattle.bundle.specs.declared.Parts.{Parts}
use Rattle.bundle.specs.Parts.{read_of}
use Rattle.bundle.specs.Claims.{Inside}
use Rattle.bundle.proofs.Claims.{granted_is_good, parts_inside}
use Rattle.writer.specs.Put.{Put}
use Rattle.writer.proofs.Puts.{kept}
use Rattle.bundle_run.specs.Parts.{Within}
use Rattle.run.specs.declared.TooShort.{TooShort}

-- what was read lies in the file
pub read_inside : {s : List ℕ} {p : Parts} → read_of s ≡ Ok p → Inside s p
read_inside {s} {p} e =
    let good = granted_is_good s p e in
    rw good.1 (parts_inside s good.0)

pub within_read : {s : List ℕ} {p : Parts} → read_of s ≡ Ok p → Within s p
within_read e =
    let h = read_inside e in
    record { ram = h.ram; accesses = omega (arith, h.accesses); few = h.accesses_most }

-- buffers that are long enough
pub enough : (a b m n : ℕ) → ltb a b || ltb m n ≡ false → (b ≤ a) × (n ≤ m)
enough a b m n e = go (ltb a b) refl e
  where
    go : (t : Bool) → ltb a b ≡ t → t || ltb m n ≡ false → (b ≤ a) × (n ≤ m)
    go false f e = (ltb-false a b f, ltb-false m n e)
    go true f e = let z : ◌≡◌ {A = ℕ} 0 1 = cc in absurd (omega arith)

-- the place after a text at the start of a buffer
pub text_end : {most r : ℕ} {old new ys : List ℕ} → Put most old new 0 r ys → r ≡ length ys
text_end p = omega (arith, p.next)

-- a text lies in its buffer, and there is none where the buffer is too short
pub text_within : {most r n : ℕ} {old new ys : List ℕ} → Put most old new 0 r ys → most ≤ length old → ◌≡◌ {A = Result ℕ TooShort} (Ok r) (Ok n) → n ≤ length new
text_within {r = r} {n = n} p h e =
    let same : r ≡ n = cc in
    omega (arith, p.room, kept p)

pub no_text : {n len : ℕ} → ◌≡◌ {A = Result ℕ TooShort} (Err (record {})) (Ok n) → n ≤ len
no_text e = let z : ◌≡◌ {A = ℕ} 0 1 = cc in absurd (omega arith)
