-- Good bytes are the image of the state that is read from them.
use Prim.Native.Nat.{ℕ, zero, suc, ◌+◌, ◌*◌, ◌/◌, ◌%◌, ◌≤◌, ◌<◌}
use native.Mathlib.Nat.{add_assoc}
use native.Mathlib.Omega.{arith}
use mathlib.Core.Path.{◌≡◌, refl, ◌∙◌}
use mathlib.Core.Bool.{true, ◌&&◌, and-eq-true_iff}
use mathlib.Core.List.{List, ◌++◌}
use lib.Dec.{eqb, leb}
use lib.ListN.{length}
use borrow.Author.Tests.{eqb-true, leb-true}
use Rattle.bits.specs.Bits.{bit}
use Rattle.plan.specs.Map.{flag}
use Rattle.layout.specs.Layout.{byte_at}
use Rattle.bundle.proofs.Numbers.{policy_number_lem, flag_bit, switch_number_lem}
use Rattle.entry_image.specs.EntryImage.{entry_flags, entry_image, entries_image, entry_read, entries_read, refs_ok}
use Rattle.image.specs.Image.{words_image, counts_of, head_image, image_of}
use Rattle.image_read.specs.Reading.{stats_read, tlb_read, state_at, good_image}
use Rattle.images.proofs.Cut.{cut, cut_then, cut_slice, cut_whole, number_cut}
use Rattle.images.proofs.States.{front}

-- eight digits make the number
add_up : (b q1 q2 q3 q4 q5 q6 q7 d0 d1 d2 d3 d4 d5 d6 : ℕ)
    → b ≡ d0 + 2 * q1 → q1 ≡ d1 + 2 * q2 → q2 ≡ d2 + 2 * q3 → q3 ≡ d3 + 2 * q4 → q4 ≡ d4 + 2 * q5 → q5 ≡ d5 + 2 * q6 → q6 ≡ d6 + 2 * q7
    → d0 * 1 + d1 * 2 + d2 * 4 + d3 * 8 + d4 * 16 + d5 * 32 + d6 * 64 + q7 * 128 ≡ b
add_up b q1 q2 q3 q4 q5 q6 q7 d0 d1 d2 d3 d4 d5 d6 e0 e1 e2 e3 e4 e5 e6 = omega arith

flags_exact : (b : ℕ) → b < 256
    → flag 0 (bit 0 b) + flag 1 (bit 1 b) + flag 2 (bit 2 b) + flag 3 (bit 3 b) + flag 4 (bit 4 b) + flag 5 (bit 5 b) + flag 6 (bit 6 b) + flag 7 (bit 7 b) ≡ b
flags_exact b h =
    let top : b / 128 % 2 ≡ b / 128 = omega arith in
    let one : b / 1 % 2 ≡ b % 2 = omega arith in
    rw (flag_bit 0 b, flag_bit 1 b, flag_bit 2 b, flag_bit 3 b, flag_bit 4 b, flag_bit 5 b, flag_bit 6 b, flag_bit 7 b, top, one)
    (add_up b (b / 2) (b / 4) (b / 8) (b / 16) (b / 32) (b / 64) (b / 128)
    (b % 2) (b / 2 % 2) (b / 4 % 2) (b / 8 % 2) (b / 16 % 2) (b / 32 % 2) (b / 64 % 2)
    (omega arith) (omega arith) (omega arith) (omega arith) (omega arith) (omega arith) (omega arith))

ref_exact : (b : ℕ) → b ≤ 1 → flag 0 (bit 0 b) ≡ b
ref_exact b h = rw (flag_bit 0 b) (omega arith)

-- parts in a row, each by another name
alike4 : {a a' b b' c c' d d' : List ℕ} → a ≡ a' → b ≡ b' → c ≡ c' → d ≡ d' → a ++ (b ++ (c ++ d)) ≡ a' ++ (b' ++ (c' ++ d'))
alike4 p q r t = rw (p, q, r, t)

alike5 : {a a' b b' c c' d d' e e' : List ℕ} → a ≡ a' → b ≡ b' → c ≡ c' → d ≡ d' → e ≡ e'
    → a ++ (b ++ (c ++ (d ++ e))) ≡ a' ++ (b' ++ (c' ++ (d' ++ e')))
alike5 p q r t u = rw (p, q, r, t, u)

module _ (s : List ℕ) (bytes : (k : ℕ) → byte_at s k < 256) where
  entry_exact : (p : ℕ) → byte_at s (p + 24) ≤ 1 → entry_image (entry_read s p) ≡ cut s p 25
  unfolding entry_image entry_read entry_flags cut
  entry_exact p h =
      rw (
        number_cut s bytes 8 p,
        number_cut s bytes 8 (p + 8),
        number_cut s bytes 4 (p + 16),
        number_cut s bytes 2 (p + 20),
        flags_exact (byte_at s (p + 23)) (bytes (p + 23)),
        ref_exact (byte_at s (p + 24)) h,
      )
      (simp add_assoc)

  entries_exact : (n p : ℕ) → refs_ok s p n ≡ true → entries_image (entries_read s p n) ≡ cut s p (25 * n)
  unfolding entries_image entries_read refs_ok cut
  entries_exact zero p e = refl
  entries_exact (suc n) p e =
      let k = (and-eq-true_iff (leb (byte_at s (p + 24)) 1) (refs_ok s (p + 25) n)).0 e in
      let m : 25 * suc n ≡ 25 + 25 * n = omega arith in
      rw (entry_exact p (leb-true (byte_at s (p + 24)) 1 k.0), entries_exact n (p + 25) k.1, m)
      (cut_then s 25 (25 * n) p (p + 25) refl)

  -- what a good string's tests say
  record Good : Type 0 where
    long : length s ≡ 3416
    policy : byte_at s 3 ≤ 5
    switches : byte_at s 6 ≤ 7
    zero7 : byte_at s 7 ≡ 0
    zero15 : byte_at s 15 ≡ 0
    refs : refs_ok s 216 128 ≡ true

  tests : good_image s ≡ true → Good
  unfolding good_image
  tests e =
      let a = (and-eq-true_iff (eqb (length s) 3416) _).0 e in
      let b = (and-eq-true_iff (leb (byte_at s 3) 5) _).0 a.1 in
      let c = (and-eq-true_iff (leb (byte_at s 6) 7) _).0 b.1 in
      let d = (and-eq-true_iff (eqb (byte_at s 7) 0 && eqb (byte_at s 15) 0) _).0 c.1 in
      let z = (and-eq-true_iff (eqb (byte_at s 7) 0) _).0 d.0 in
      record {
        long = eqb-true (length s) 3416 a.0;
        policy = leb-true (byte_at s 3) 5 b.0;
        switches = leb-true (byte_at s 6) 7 c.0;
        zero7 = eqb-true (byte_at s 7) 0 z.0;
        zero15 = eqb-true (byte_at s 15) 0 z.1;
        refs = d.1;
      }

  front_exact : Good → front (state_at s 0) ≡ cut s 2 14
  unfolding state_at tlb_read cut
  front_exact g =
      rw (policy_number_lem (byte_at s 3) g.policy, switch_number_lem (byte_at s 6) g.switches, g.zero7, g.zero15)

  counts_exact : words_image (counts_of (tlb_read s 0)) ≡ cut s 28 56
  unfolding words_image tlb_read stats_read cut
  counts_exact =
      rw (
        number_cut s bytes 8 28,
        number_cut s bytes 8 36,
        number_cut s bytes 8 44,
        number_cut s bytes 8 52,
        number_cut s bytes 8 60,
        number_cut s bytes 8 68,
        number_cut s bytes 8 76,
      )

  head_exact : Good → head_image (state_at s 0) ≡ cut s 0 84
  unfolding head_image state_at tlb_read
  head_exact g =
      alike5 (number_cut s bytes 2 0) (front_exact g) (number_cut s bytes 8 16) (number_cut s bytes 4 24) counts_exact
      ∙ rw (cut_then s 4 56 24 28 refl, cut_then s 8 60 16 24 refl, cut_then s 14 68 2 16 refl) (cut_then s 2 82 0 2 refl)

  classes_exact : (tlb_read s 0).superpage_masks ≡ cut s 84 4
  unfolding tlb_read cut
  classes_exact = refl

  pub image_exact : good_image s ≡ true → image_of (state_at s 0) ≡ s
  unfolding image_of state_at tlb_read
  image_exact e =
      let g = tests e in
      alike4 (head_exact g) classes_exact (cut_slice s 128 88 216 refl (rw g.long (omega arith))) (entries_exact 128 216 g.refs)
      ∙ rw (cut_then s 128 3200 88 216 refl, cut_then s 4 3328 84 88 refl, cut_then s 84 3332 0 84 refl)
      (cut_whole s 3416 g.long)
