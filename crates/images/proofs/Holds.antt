-- A list that stands in another at a place, and what is read there.
use Prim.Native.Nat.{ℕ, zero, suc, ◌+◌, ◌/◌, ◌%◌, ◌^◌, ◌<◌}
use native.Mathlib.Nat.{zero-add, suc-add, pow-suc, div-lt_iff_lt-mul}
use native.Mathlib.Omega.{arith}
use mathlib.Core.Path.{◌≡◌, refl, sym, ◌∙◌}
use mathlib.Core.List.{List, [], ◌∷◌, ◌++◌, append_assoc, append-nil}
use lib.Dec.{lit<}
use lib.ListN.{length, get_or, take, drop, get_or-append}
use lib.Seq.{slice, take_at, drop_at, drop-drop, take-nil, get_or-drop}
use Rattle.memory.specs.Word.{le_at}
use Rattle.layout.specs.Layout.{byte_at}
use Rattle.entry_image.specs.EntryImage.{le_bytes}

pub record Holds (s : List ℕ) (p : ℕ) (ys : List ℕ) : Type 0 where
  pub rest : List ℕ
  pub here : drop p s ≡ ys ++ rest

pub whole : (s : List ℕ) → Holds s 0 s
whole s = record { rest = []; here = sym (append-nil s) }

module _ {s : List ℕ} {p : ℕ} where
  pub left : (xs ys : List ℕ) → Holds s p (xs ++ ys) → Holds s p xs
  left xs ys h = record { rest = ys ++ h.rest; here = h.here ∙ append_assoc xs ys h.rest }

  pub right : (xs ys : List ℕ) (n q : ℕ) → length xs ≡ n → q ≡ p + n → Holds s p (xs ++ ys) → Holds s q ys
  right xs ys n q e f h =
      record {
        rest = h.rest;
        here =
            rw (f, ← drop-drop n p s, h.here, append_assoc xs ys h.rest) (drop_at xs (ys ++ h.rest) n e);
      }

  -- the k-th of its bytes
  pub at : {ys : List ℕ} (k q : ℕ) → q ≡ p + k → k < length ys → Holds s p ys → byte_at s q ≡ get_or ys k 0
  at {ys} k q e l h = rw (e, ← get_or-drop p s k 0, h.here) (get_or-append ys h.rest 0 k l)

  pub part : {ys : List ℕ} (n q : ℕ) → length ys ≡ n → q ≡ p + n → Holds s p ys → slice p q s ≡ ys
  part {ys} n q e f h = rw (f, drop_take p n s, h.here) (take_at ys h.rest n e)
    where
      drop_take : (p n : ℕ) (l : List ℕ) → drop p (take (p + n) l) ≡ take n (drop p l)
      drop_take zero n l = rw zero-add
      drop_take (suc p) n [] = rw suc-add (sym (take-nil n))
      drop_take (suc p) n (x ∷ xs) = rw suc-add (drop_take p n xs)

fewer : (n v : ℕ) → v < 256 ^ suc n → v / 256 < 256 ^ n
fewer n v k = (div-lt_iff_lt-mul (lit< tt)).1 (rw pow-suc at k)

-- a number is read back from its bytes
pub number : (n v : ℕ) {s : List ℕ} {p : ℕ} → v < 256 ^ n → Holds s p (le_bytes n v) → le_at n s p ≡ v
unfolding le_at le_bytes
number zero v l h = omega arith
number (suc n) v {s} {p} l h =
    let some : 0 < length (v % 256 ∷ le_bytes n (v / 256)) = omega arith in
    let low : byte_at s p ≡ v % 256 = at 0 p (omega arith) some h in
    let high : le_at n s (p + 1) ≡ v / 256 =
    number n (v / 256) (fewer n v l) (right (v % 256 ∷ []) (le_bytes n (v / 256)) 1 (p + 1) refl refl h) in
    rw (low, high) (omega arith)
