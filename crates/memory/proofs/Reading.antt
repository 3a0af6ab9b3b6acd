-- When a word is readable, and what the answers say.
use Rattle.std.specs.Prelude.{None, Some}
use Prim.Native.Nat.{ℕ, suc, ◌+◌, ◌-◌, ◌*◌, ◌/◌, ◌%◌, ◌^◌, ◌≤◌, ◌<◌, zero}
use native.Mathlib.Nat.{one-mul, add_assoc, mod-eq_of_lt, pow-le-pow_right}
use native.Mathlib.Numerals.{add-one}
use native.Mathlib.Omega.{arith}
use mathlib.Core.Path.{◌≡◌, refl, ◌∙◌}
use mathlib.Core.Bool.{Bool, true, false, ◌&&◌, cond}
use mathlib.Core.List.{List, [], ◌∷◌, reverse}
use lib.ListN.{length, get_or, set, take, drop, length-drop}
use lib.Seq.{drop-cons, length-take-le}
use borrow.Rule.Slice.PartMut.{put_mid}
use Rattle.std.proofs.lemmas.Grind.{reverse_onto}
use Rattle.std.proofs.lemmas.List.{set-append_left, set-append_right}
use lib.Bits.{bit_or, or_shifted}
use Rattle.std.specs.List.{fold}
use Rattle.std.proofs.lemmas.List.Sums.{fold-append}
use Rattle.memory.proofs.Laws.{word_lt}
use lib.Dec.{leb, lit<}
use lib.Pow.{shl_exact, pow_mono}
use borrow.Author.Tests.{leb-true, le-leb, lt-leb}
use Rattle.memory.specs.Word.{readable, le_at, put_at, word_at, store_in}

-- the bytes of a readable word lie in RAM
in_ram : (x y : ℕ) (b : Bool) → leb x y && b ≡ true → x ≤ y
in_ram x y b e = leb-true x y (first (leb x y) b e)
  where
    first : (a b : Bool) → a && b ≡ true → a ≡ true
    first true b e = refl
    first false b e = e

pub readable_in : (bits n : ℕ) (ram : List ℕ) (a : ℕ) → readable bits n ram a ≡ true → a + n ≤ length ram
unfolding readable
readable_in bits n ram a e = in_ram (a + n) (length ram) _ e

-- the code's tests: the end is past the RAM, or within it and then the sum does not wrap
pub past : (bits n : ℕ) (ram : List ℕ) (a : ℕ) → length ram < a + n → false ≡ readable bits n ram a
unfolding readable
past bits n ram a h = rw (lt-leb (a + n) (length ram) h)

pub within : (bits n : ℕ) (ram : List ℕ) (a : ℕ) → a + n ≤ length ram → bits < 64 → leb (a + n) (1 * 2 ^ bits % 2 ^ 64) ≡ readable bits n ram a
unfolding readable
within bits n ram a h k = rw (le-leb (a + n) (length ram) h, shl_exact {a = 1} 1 bits 64 (lit< tt) (omega arith), one-mul (2 ^ bits))

-- no end in RAM passes 2^64
pub always : (bits n : ℕ) (ram : List ℕ) (a : ℕ) → a + n ≤ length ram → 63 < bits → length ram < 2 ^ 64 → true ≡ readable bits n ram a
unfolding readable
always bits n ram a h k l =
    rw (le-leb (a + n) (length ram) h, le-leb (a + n) (2 ^ bits) (omega (arith, pow_mono {i = 64} {j = bits} (omega arith))))

-- a word is read from its last byte down, by shifts, and written from its first byte up
abbrev pub pushed : ℕ → ℕ → ℕ
pushed v b = bit_or (v * 2 ^ 8 % 2 ^ 64) b

push_fits : (v b : ℕ) → v < 2 ^ 56 → b < 256 → pushed v b ≡ b + 256 * v
push_fits v b h k = let fits : v * 2 ^ 8 < 2 ^ 64 = omega arith in rw mod-eq_of_lt (or_shifted v 8 b k ∙ omega arith)

pub load_fold : (n a : ℕ) (ram : List ℕ) → n ≤ 8 → a + n ≤ length ram → ((k : ℕ) → get_or ram k 0 < 256)
    → fold pushed 0 (reverse (take n (drop a ram))) ≡ le_at n ram a
unfolding le_at
load_fold zero a ram few h bytes = refl
load_fold (suc n) a ram few h bytes =
    let rest = reverse (take n (drop (suc a) ram)) in
    let high : le_at n ram (suc a) < 2 ^ 56 = omega (arith, word_lt n ram (suc a) bytes, pow-le-pow_right {n = 256} (lit< tt) {i = n} {j = 7} (omega arith)) in
    rw (drop-cons ram a 0 (omega arith), reverse_onto (take n (drop (suc a) ram)) (get_or ram a 0) [], fold-append pushed 0 rest (get_or ram a 0 ∷ []), load_fold n (suc a) ram (omega arith) (omega arith) bytes, add-one)
    (push_fits _ _ high (bytes a))

pub store_step : (m a i k v : ℕ) (ram word : List ℕ) → a ≤ length ram → i < length word
    → put_at m (put_mid a k ram (set word i (v % 256))) (a + (i + 1)) (v / 256) ≡ put_at (suc m) (put_mid a k ram word) (a + i) v
unfolding put_at
store_step m a i k v ram word h l =
    let here : a + i - a ≡ i = omega arith in
    rw (
      add_assoc a i 1,
      set-append_right (take a ram) _ a (a + i) (v % 256) (length-take-le a ram h) (omega arith),
      here,
      set-append_left word _ i (v % 256) l,
    )

pub length_word : (n a : ℕ) (ram : List ℕ) → a + n ≤ length ram → length (take (a + n - a) (drop a ram)) ≡ n
length_word n a ram h =
    let same : a + n - a ≡ n = omega arith in
    rw same (length-take-le n (drop a ram) (omega (arith, length-drop a ram)))

module _ (bits n : ℕ) (ram : List ℕ) (a : ℕ) where
  pub word_is : {v : ℕ} → readable bits n ram a ≡ true → v ≡ le_at n ram a → Some v ≡ word_at bits n ram a
  unfolding word_at
  word_is e f = rw (e, f)

  pub word_none : readable bits n ram a ≡ false → None ≡ word_at bits n ram a
  unfolding word_at
  word_none e = rw e

  pub stored : (v : ℕ) → readable bits n ram a ≡ true → put_at n ram a v ≡ store_in bits n ram a v
  unfolding store_in
  stored v e = rw e

  pub not_stored : (v : ℕ) → readable bits n ram a ≡ false → ram ≡ store_in bits n ram a v
  unfolding store_in
  not_stored v e = rw e

-- ---- what an answer says

is_picked : (b : Bool) (x v : ℕ) → cond b (Some x) None ≡ Some v → (b ≡ true) × (x ≡ v)
is_picked true x v e = (refl, cc)
is_picked false x v e = let z : ◌≡◌ {A = ℕ} 0 1 = cc in absurd (omega arith)

none_picked : (b : Bool) (x : ℕ) → cond b (Some x) None ≡ None → b ≡ false
none_picked false x e = refl
none_picked true x e = let z : ◌≡◌ {A = ℕ} 0 1 = cc in absurd (omega arith)

module _ (bits n : ℕ) (ram : List ℕ) (a : ℕ) where
  pub is_word : {v : ℕ} → word_at bits n ram a ≡ Some v → (readable bits n ram a ≡ true) × (le_at n ram a ≡ v)
  unfolding word_at
  is_word {v} e = is_picked (readable bits n ram a) (le_at n ram a) v e

  pub no_word : word_at bits n ram a ≡ None → readable bits n ram a ≡ false
  unfolding word_at
  no_word e = none_picked (readable bits n ram a) (le_at n ram a) e
