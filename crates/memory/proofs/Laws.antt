-- Writing a word and reading one, over the size of the word.
use Prim.Native.Nat.{ℕ, zero, suc, ◌+◌, ◌/◌, ◌%◌, ◌^◌, ◌≤◌, ◌<◌, ◌∣◌}
use native.Mathlib.Nat.{pow-suc, pow-succ', div-lt_iff_lt-mul, le_of_dvd, dvd-sub, sub-pos_iff_lt}
use native.Mathlib.Decide.{dec_lt}
use native.Mathlib.Omega.{arith}
use mathlib.Core.Path.{◌≡◌, refl, ◌∙◌}
use mathlib.Core.List.{List}
use lib.ListN.{length, get_or, set, length-set}
use lib.Seq.{get_or-set_same, get_or-set_other}
use lib.Dec.{lit<}
use Rattle.memory.specs.Word.{le_at, put_at}

pub length_put : (n : ℕ) (ram : List ℕ) (a v : ℕ) → length (put_at n ram a v) ≡ length ram
unfolding put_at
length_put zero ram a v = refl
length_put (suc n) ram a v = length_put n (set ram a (v % 256)) (a + 1) (v / 256) ∙ simp length-set

-- a byte outside the n at a
pub data Outside (n a k : ℕ) : Type 0 where
  below : k < a → Outside n a k
  above : a + n ≤ k → Outside n a k

pub byte_kept : (n : ℕ) (ram : List ℕ) (a v k : ℕ) → Outside n a k → get_or (put_at n ram a v) k 0 ≡ get_or ram k 0
unfolding put_at
byte_kept zero ram a v k o = refl
byte_kept (suc n) ram a v k (below h) = byte_kept n (set ram a (v % 256)) (a + 1) (v / 256) k (below (omega arith)) ∙ get_or-set_other ram a k (v % 256) 0 (λ e. omega arith)
byte_kept (suc n) ram a v k (above h) = byte_kept n (set ram a (v % 256)) (a + 1) (v / 256) k (above (omega arith)) ∙ get_or-set_other ram a k (v % 256) 0 (λ e. omega arith)

fewer : (n v : ℕ) → v < 256 ^ suc n → v / 256 < 256 ^ n
fewer n v k = (div-lt_iff_lt-mul (lit< tt)).1 (rw pow-suc at k)

-- what is written is read back
pub read_same : (n : ℕ) (ram : List ℕ) (a v : ℕ) → a + n ≤ length ram → v < 256 ^ n → le_at n (put_at n ram a v) a ≡ v
unfolding put_at le_at
read_same zero ram a v h k = omega arith
read_same (suc n) ram a v h k =
    rw (
      byte_kept n (set ram a (v % 256)) (a + 1) (v / 256) a (below (omega arith)),
      read_same n (set ram a (v % 256)) (a + 1) (v / 256) (simp length-set (omega arith)) (fewer n v k),
      get_or-set_same ram a (v % 256) 0 (omega arith),
    )
    (omega arith)

-- a word of m bytes apart from the n written ones
pub data Apart (n a m b : ℕ) : Type 0 where
  before : b + m ≤ a → Apart n a m b
  after : a + n ≤ b → Apart n a m b

pub read_other : (n : ℕ) (ram : List ℕ) (a v m b : ℕ) → Apart n a m b → le_at m (put_at n ram a v) b ≡ le_at m ram b
unfolding le_at
read_other n ram a v zero b o = refl
read_other n ram a v (suc m) b (before h) = rw (byte_kept n ram a v b (below (omega arith)), read_other n ram a v m (b + 1) (before (omega arith)))
read_other n ram a v (suc m) b (after h) = rw (byte_kept n ram a v b (above h), read_other n ram a v m (b + 1) (after (omega arith)))

-- a word of bytes fits
pub word_lt : (n : ℕ) (ram : List ℕ) (a : ℕ) → ((k : ℕ) → get_or ram k 0 < 256) → le_at n ram a < 256 ^ n
unfolding le_at
word_lt zero ram a h = lit< tt
word_lt (suc n) ram a h = rw (pow-succ' 256 n) (omega (arith, h a, word_lt n ram (a + 1) h))

-- two aligned words are one or apart
pub aligned_apart : (c a b : ℕ) → c ∣ a → c ∣ b → (a ≡ b → ⊥) → Apart c a c b
aligned_apart c a b p q ne = pick (dec_lt a b)
  where
    pick : Dec (a < b) → Apart c a c b
    pick (yes l) = after (omega (arith, le_of_dvd (sub-pos_iff_lt.1 l) (dvd-sub c q p)))
    pick (no g) =
        let l : b < a = omega arith in
        before (omega (arith, le_of_dvd (sub-pos_iff_lt.1 l) (dvd-sub c p q)))
