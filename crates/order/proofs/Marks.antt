-- The marks of a word are the marks of its low byte; on bytes they commute, and what is marked twice is marked once.
use Prim.Native.Nat.{ℕ, zero, suc, ◌+◌, ◌-◌, ◌*◌, ◌/◌, ◌%◌, ◌<◌}
use mathlib.Core.Path.{◌≡◌, refl, sym, ap, ◌∙◌}
use mathlib.Core.Logic.{◌≢◌}
use mathlib.Core.Bool.{Bool, true, false, not, cond, ◌&&◌, ◌||◌, or-false, or-true}
use mathlib.Core.List.{List}
use native.Mathlib.Decide.{ℕ_discrete, dec_lt}
use native.Mathlib.Nat.{div-div-eq-div-mul}
use native.Mathlib.Omega.{arith}
use lib.Dec.{eqb}
use lib.ListN.{length, get_or, set, length-set}
use lib.Seq.{get_or-set_same, get_or-set_other, set_comm, set-set, set_out, set-get_or}
use borrow.Author.Tests.{eqb-true, eq-eqb}
use Rattle.bits.specs.Bits.{bit, with_bit}
use Rattle.bits.proofs.Flags.{Digit, is0, is1}
use Rattle.memory.specs.Word.{le_at, put_at}
use Rattle.memory.proofs.Laws.{read_other, after}
use Rattle.scheme.specs.declared.access.AccessType.{AccessType}
use Rattle.scheme.specs.declared.access.AccessType.TheVariants.{Fetch, Load, Store}
use Rattle.scheme.specs.declared.Format.{Format}
use Rattle.walk.specs.Answer.{mark_of, mark_in}
use Rattle.walks.specs.Plain.{Bytes}
use Rattle.walks.proofs.Bytes.{set_bytes}
use Rattle.walks.proofs.Marks.{digit_of_lem}
use Rattle.access.specs.Translate.{is_store}

-- ---- one byte

-- what omega reads
a_is : (w : ℕ) → with_bit 6 w ≡ w + 64 * (1 - w / 64 % 2)
unfolding with_bit bit
a_is w = go (digit_of_lem 6 w)
  where
    go : Digit (w / 64 % 2) → cond (eqb (w / 64 % 2) 1) w (w + 64) ≡ w + 64 * (1 - w / 64 % 2)
    go (is0 e) = rw e
    go (is1 e) = rw e (omega arith)

d_is : (w : ℕ) → with_bit 7 w ≡ w + 128 * (1 - w / 128 % 2)
unfolding with_bit bit
d_is w = go (digit_of_lem 7 w)
  where
    go : Digit (w / 128 % 2) → cond (eqb (w / 128 % 2) 1) w (w + 128) ≡ w + 128 * (1 - w / 128 % 2)
    go (is0 e) = rw e
    go (is1 e) = rw e (omega arith)

a_a : (w : ℕ) → with_bit 6 (with_bit 6 w) ≡ with_bit 6 w
a_a w = omega (arith, a_is w, a_is (with_bit 6 w))

d_d : (w : ℕ) → with_bit 7 (with_bit 7 w) ≡ with_bit 7 w
d_d w = omega (arith, d_is w, d_is (with_bit 7 w))

-- the one mark is no part of the other's test
a_keeps_d : (w : ℕ) → with_bit 6 w / 128 % 2 ≡ w / 128 % 2
a_keeps_d w = ap (λ (x : ℕ). x % 2) (sym (div-div-eq-div-mul (with_bit 6 w) 64 2) ∙ ap (λ (x : ℕ). x / 2) a_64 ∙ half (w / 64) ∙ div-div-eq-div-mul w 64 2)
  where
    a_64 : with_bit 6 w / 64 ≡ w / 64 + (1 - w / 64 % 2)
    a_64 = omega (arith, a_is w)

    half : (n : ℕ) → (n + (1 - n % 2)) / 2 ≡ n / 2
    half n = omega arith

d_keeps_a : (w : ℕ) → with_bit 7 w / 64 % 2 ≡ w / 64 % 2
d_keeps_a w = omega (arith, d_is w)

a_d : (w : ℕ) → with_bit 6 (with_bit 7 w) ≡ with_bit 7 (with_bit 6 w)
a_d w = omega (arith, a_is w, d_is w, a_is (with_bit 7 w), d_is (with_bit 6 w), a_keeps_d w, d_keeps_a w)

mark_comm : (k j : AccessType) (w : ℕ) → mark_of k (mark_of j w) ≡ mark_of j (mark_of k w)
mark_comm Fetch Fetch w = refl
mark_comm Fetch Load w = refl
mark_comm Fetch Store w = a_d (with_bit 6 w)
mark_comm Load Fetch w = refl
mark_comm Load Load w = refl
mark_comm Load Store w = a_d (with_bit 6 w)
mark_comm Store Fetch w = sym (a_d (with_bit 6 w))
mark_comm Store Load w = sym (a_d (with_bit 6 w))
mark_comm Store Store w = refl

-- no more is asked than was set
mark_again : (k j : AccessType) (w : ℕ) → is_store k && not (is_store j) ≡ false → mark_of k (mark_of j w) ≡ mark_of j w
mark_again Fetch Fetch w h = a_a w
mark_again Fetch Load w h = a_a w
mark_again Fetch Store w h = a_d (with_bit 6 w) ∙ ap (with_bit 7) (a_a w)
mark_again Load Fetch w h = a_a w
mark_again Load Load w h = a_a w
mark_again Load Store w h = a_d (with_bit 6 w) ∙ ap (with_bit 7) (a_a w)
mark_again Store Fetch w h = cc
mark_again Store Load w h = cc
mark_again Store Store w h = ap (with_bit 7) (a_d (with_bit 6 w)) ∙ d_d (with_bit 6 (with_bit 6 w)) ∙ ap (with_bit 7) (a_a w)

a_small : (w : ℕ) → w < 256 → with_bit 6 w < 256
a_small w h = omega (arith, a_is w)

d_small : (w : ℕ) → w < 256 → with_bit 7 w < 256
d_small w h = omega (arith, d_is w)

mark_small : (k : AccessType) (w : ℕ) → w < 256 → mark_of k w < 256
mark_small Fetch w h = a_small w h
mark_small Load w h = a_small w h
mark_small Store w h = d_small (with_bit 6 w) (a_small w h)

-- what stands above the byte stays, and is not asked
a_above : (w h : ℕ) → with_bit 6 (w + 256 * h) ≡ with_bit 6 w + 256 * h
a_above w h = omega (arith, a_is w, a_is (w + 256 * h))

d_above : (w h : ℕ) → with_bit 7 (w + 256 * h) ≡ with_bit 7 w + 256 * h
d_above w h = omega (arith, d_is w, d_is (w + 256 * h))

mark_above : (k : AccessType) (w h : ℕ) → mark_of k (w + 256 * h) ≡ mark_of k w + 256 * h
mark_above Fetch w h = a_above w h
mark_above Load w h = a_above w h
mark_above Store w h = ap (with_bit 7) (a_above w h) ∙ d_above (with_bit 6 w) h

-- ---- what a mark sets, and what it leaves

a_set : (w : ℕ) → bit 6 (with_bit 6 w) ≡ true
unfolding bit
a_set w = eq-eqb (with_bit 6 w / 64 % 2) 1 (omega (arith, a_is w))

d_set : (w : ℕ) → bit 7 (with_bit 7 w) ≡ true
unfolding bit
d_set w = eq-eqb (with_bit 7 w / 128 % 2) 1 (omega (arith, d_is w))

a_leaves_d : (w : ℕ) → bit 7 (with_bit 6 w) ≡ bit 7 w
unfolding bit
a_leaves_d w = ap (λ (x : ℕ). eqb x 1) (a_keeps_d w)

d_leaves_a : (w : ℕ) → bit 6 (with_bit 7 w) ≡ bit 6 w
unfolding bit
d_leaves_a w = ap (λ (x : ℕ). eqb x 1) (d_keeps_a w)

pub mark_a : (k : AccessType) (w : ℕ) → bit 6 (mark_of k w) ≡ true
mark_a Fetch w = a_set w
mark_a Load w = a_set w
mark_a Store w = d_leaves_a (with_bit 6 w) ∙ a_set w

pub mark_d : (k : AccessType) (w : ℕ) → bit 7 (mark_of k w) ≡ (bit 7 w || is_store k)
mark_d Fetch w = a_leaves_d w ∙ sym (or-false (bit 7 w))
mark_d Load w = a_leaves_d w ∙ sym (or-false (bit 7 w))
mark_d Store w = d_set (with_bit 6 w) ∙ sym (or-true (bit 7 w))

-- ---- a byte of RAM

-- the byte at a, marked
abbrev pub byte_marked : AccessType → ℕ → List ℕ → List ℕ
byte_marked k a ram = set ram a (mark_of k (get_or ram a 0))

twice : (k j : AccessType) (a : ℕ) (ram : List ℕ) → byte_marked k a (byte_marked j a ram) ≡ set ram a (mark_of k (mark_of j (get_or ram a 0)))
twice k j a ram = go (dec_lt a (length ram))
  where
    go : Dec (a < length ram) → byte_marked k a (byte_marked j a ram) ≡ set ram a (mark_of k (mark_of j (get_or ram a 0)))
    go (yes h) = set-set ram a _ _ ∙ ap (λ (x : ℕ). set ram a (mark_of k x)) (get_or-set_same ram a _ 0 h)
    go (no n) =
        set_out (byte_marked j a ram) a _ (omega (arith, length-set ram a (mark_of j (get_or ram a 0))))
        ∙ set_out ram a _ (omega arith)
        ∙ sym (set_out ram a _ (omega arith))

other : (k j : AccessType) (a b : ℕ) (ram : List ℕ) → a ≢ b → byte_marked k a (byte_marked j b ram) ≡ set (byte_marked j b ram) a (mark_of k (get_or ram a 0))
other k j a b ram n = ap (λ (x : ℕ). set (byte_marked j b ram) a (mark_of k x)) (get_or-set_other ram b a _ 0 n)

pub byte_comm : (k j : AccessType) (a b : ℕ) (ram : List ℕ) → byte_marked k a (byte_marked j b ram) ≡ byte_marked j b (byte_marked k a ram)
byte_comm k j a b ram = go (ℕ_discrete a b)
  where
    go : Dec (a ≡ b) → byte_marked k a (byte_marked j b ram) ≡ byte_marked j b (byte_marked k a ram)
    go (yes e) = rw e (twice k j b ram ∙ ap (λ (x : ℕ). set ram b x) (mark_comm k j (get_or ram b 0)) ∙ sym (twice j k b ram))
    go (no n) = other k j a b ram n ∙ set_comm ram b a _ _ (λ e. n (sym e)) ∙ sym (other j k b a ram (λ e. n (sym e)))

pub byte_again : (k j : AccessType) (a : ℕ) (ram : List ℕ) → is_store k && not (is_store j) ≡ false → byte_marked k a (byte_marked j a ram) ≡ byte_marked j a ram
byte_again k j a ram h = twice k j a ram ∙ ap (λ (x : ℕ). set ram a x) (mark_again k j (get_or ram a 0) h)

-- RAM stays bytes
pub byte_bytes : (k : AccessType) (a : ℕ) (ram : List ℕ) → Bytes ram → Bytes (byte_marked k a ram)
byte_bytes k a ram small = set_bytes ram a (mark_of k (get_or ram a 0)) (mark_small k _ (small a)) small

-- ---- a word of RAM

-- what was read, put back
put_back : (n : ℕ) (ram : List ℕ) (a : ℕ) → Bytes ram → put_at n ram a (le_at n ram a) ≡ ram
unfolding put_at le_at
put_back zero ram a small = refl
put_back (suc n) ram a small =
    let low : (get_or ram a 0 + 256 * le_at n ram (a + 1)) % 256 ≡ get_or ram a 0 = omega (arith, small a) in
    let high : (get_or ram a 0 + 256 * le_at n ram (a + 1)) / 256 ≡ le_at n ram (a + 1) = omega (arith, small a) in
    rw (low, high, set-get_or ram a 0) (put_back n ram (a + 1) small)

module _ (k : AccessType) (ram : List ℕ) (a : ℕ) (small : Bytes ram) where
  put_marked : (n : ℕ) → put_at (suc n) ram a (mark_of k (le_at (suc n) ram a)) ≡ byte_marked k a ram
  unfolding put_at le_at
  put_marked n =
      let h = le_at n ram (a + 1) in
      let v = mark_of k (get_or ram a 0 + 256 * h) in
      let is : v ≡ mark_of k (get_or ram a 0) + 256 * h = mark_above k (get_or ram a 0) h in
      let low : v % 256 ≡ mark_of k (get_or ram a 0) = omega (arith, mark_small k _ (small a)) in
      let high : v / 256 ≡ le_at n (set ram a (v % 256)) (a + 1) =
      omega (arith, mark_small k _ (small a), read_other 1 ram a v n (a + 1) (after (omega arith))) in
      let bytes : Bytes (set ram a (v % 256)) = rw low (byte_bytes k a ram small) in
      ap (put_at n (set ram a (v % 256)) (a + 1)) high ∙ put_back n (set ram a (v % 256)) (a + 1) bytes ∙ ap (set ram a) low

  word_at : (n : ℕ) → 0 < n → cond (eqb (mark_of k (le_at n ram a)) (le_at n ram a)) ram (put_at n ram a (mark_of k (le_at n ram a))) ≡ byte_marked k a ram
  word_at zero p = absurd (omega arith)
  word_at (suc n) p = go (eqb (mark_of k w) w) refl
    where
      w : ℕ
      w = le_at (suc n) ram a

      go : (b : Bool) → eqb (mark_of k w) w ≡ b → cond b ram (put_at (suc n) ram a (mark_of k w)) ≡ byte_marked k a ram
      go true e = sym (put_back (suc n) ram a small) ∙ ap (put_at (suc n) ram a) (sym (eqb-true _ _ e)) ∙ put_marked n
      go false e = put_marked n

  -- the word at a, marked where a mark is missing
  pub word_byte : (f : Format) → 0 < f.bytes → mark_in f k ram a (le_at f.bytes ram a) ≡ byte_marked k a ram
  unfolding mark_in
  word_byte f some = word_at f.bytes some
