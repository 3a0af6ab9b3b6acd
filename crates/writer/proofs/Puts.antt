-- Texts put one after another: nothing, one after the other, and within a wider bound.
use mathlib.Core.Path.{◌≡◌, refl, ap, ◌∙◌}
use mathlib.Core.List.{List, [], ◌++◌}
use Prim.Native.Nat.{ℕ, ◌+◌, ◌≤◌}
use native.Mathlib.Omega.{arith}
use lib.ListN.{length, length-append}
use lib.Seq.{length-sets}
use Rattle.writer.specs.Put.{Put}
use Rattle.writer.proofs.Stores.{sets_append}

pub start : (l : List ℕ) (at : ℕ) → Put 0 l l at at []
start l at = record { next = omega arith; room = omega arith; bytes = refl }

pub then : {m k : ℕ} {l₀ l₁ l₂ : List ℕ} {at a b : ℕ} {ys zs : List ℕ} → Put m l₀ l₁ at a ys → Put k l₁ l₂ a b zs → Put (m + k) l₀ l₂ at b (ys ++ zs)
then {l₀ = l₀} {at = at} {ys = ys} {zs = zs} p q =
    record {
      next = rw length-append (omega arith);
      room = omega arith;
      bytes = rw (q.bytes, p.bytes, p.next) (sets_append l₀ at ys zs);
    }

pub within : {m k : ℕ} {l l' : List ℕ} {at r : ℕ} {ys : List ℕ} → m ≤ k → Put m l l' at r ys → Put k l l' at r ys
within h p = record { next = p.next; room = omega arith; bytes = p.bytes }

pub kept : {m : ℕ} {l l' : List ℕ} {at r : ℕ} {ys : List ℕ} → Put m l l' at r ys → length l' ≡ length l
kept p = ap length p.bytes ∙ simp length-sets
