-- The fields of a map's words, as a walk reads them.
use Prim.Native.Nat.{ℕ, ◌+◌, ◌-◌, ◌*◌, ◌/◌, ◌%◌, ◌^◌, ◌≤◌, ◌<◌}
use native.Mathlib.Omega.{arith}
use native.Mathlib.Nat.{mod-eq_of_lt, div-mul-le_self, mul_assoc, mul-mod_left}
use mathlib.Core.Path.{◌≡◌, refl, sym, ap, ◌∙◌}
use mathlib.Core.Bool.{Bool, true, false, cond}
use lib.Dec.{eqb}
use lib.Pow.{pow-add}
use Rattle.bits.specs.Bits.{bit}
use Rattle.pte.specs.Entry.{perms_of, global_bit, valid_bit, ppn_of, high_bits}
use Rattle.pte.proofs.Short.{high_short}
use Rattle.pte.specs.declared.PtePerms.{PtePerms}
use Rattle.plan.specs.Map.{flag, flags_of}

-- a flag as a digit
abbrev digit : Bool → ℕ
digit b = cond b 1 0

digit_low : (b : Bool) → digit b ≤ 1
digit_low true = omega arith
digit_low false = omega arith

digit_is : (b : Bool) → eqb (digit b) 1 ≡ b
digit_is true = refl
digit_is false = refl

flag_digit : (n : ℕ) (b : Bool) → flag n b ≡ 2 ^ n * digit b
flag_digit n true = omega arith
flag_digit n false = omega arith

-- the bit n of w, by the digit below which the rest is even
bit_is : (n w half : ℕ) (b : Bool) → w / 2 ^ n ≡ 2 * half + digit b → bit n w ≡ b
unfolding bit
bit_is n w half b e =
    let d : w / 2 ^ n % 2 ≡ digit b = omega (arith, digit_low b) in
    ap (λ (k : ℕ). eqb k 1) d ∙ digit_is b

-- a word with a frame number and the flags of a map
module _ (f w : ℕ) (p : PtePerms) (g : Bool) (is : w ≡ f * 1024 + flags_of p g) where
  sum_is : w ≡ f * 1024 + (1 + 2 * digit p.r + 4 * digit p.w + 8 * digit p.x + 16 * digit p.u + 32 * digit g)
  unfolding flags_of
  sum_is = omega (arith, is, flag_digit 1 p.r, flag_digit 2 p.w, flag_digit 3 p.x, flag_digit 4 p.u, flag_digit 5 g)

  pub valid_is : valid_bit w ≡ true
  valid_is =
      let h = f * 512 + digit p.r + 2 * digit p.w + 4 * digit p.x + 8 * digit p.u + 16 * digit g in
      bit_is 0 w h true (omega (arith, sum_is))

  pub perms_are : perms_of w ≡ p
  perms_are =
      let lr = digit_low p.r in
      let lw = digit_low p.w in
      let lx = digit_low p.x in
      let r1 = bit_is 1 w (f * 256 + digit p.w + 2 * digit p.x + 4 * digit p.u + 8 * digit g) p.r (omega (arith, sum_is)) in
      let w1 = bit_is 2 w (f * 128 + digit p.x + 2 * digit p.u + 4 * digit g) p.w (omega (arith, sum_is)) in
      let x1 = bit_is 3 w (f * 64 + digit p.u + 2 * digit g) p.x (omega (arith, sum_is)) in
      let u1 = bit_is 4 w (f * 32 + digit g) p.u (omega (arith, sum_is)) in
      rw (r1, w1, x1, u1)

  pub global_is : global_bit w ≡ g
  global_is =
      let lr = digit_low p.r in
      let lw = digit_low p.w in
      let lx = digit_low p.x in
      let lu = digit_low p.u in
      bit_is 5 w (f * 16) g (omega (arith, sum_is))

  pub ppn_is : f < 2 ^ 22 → ppn_of w ≡ f
  ppn_is h =
      let lr = digit_low p.r in
      let lw = digit_low p.w in
      let lx = digit_low p.x in
      let lu = digit_low p.u in
      let lg = digit_low g in
      let high : w / 2 ^ 10 ≡ f = omega (arith, sum_is) in
      ap (λ (n : ℕ). n % 2 ^ 44) high ∙ mod-eq_of_lt (omega arith)

  pub high_is : f < 2 ^ 22 → high_bits w ≡ false
  high_is h =
      let lr = digit_low p.r in
      let lw = digit_low p.w in
      let lx = digit_low p.x in
      let lu = digit_low p.u in
      let lg = digit_low g in
      high_short w (omega (arith, sum_is))

-- the frame of a page of 2 ^ k bytes: x cut down to the page
module _ (x k : ℕ) (small : x < 2 ^ 32) (page : 12 ≤ k) where
  in_frames : x / 2 ^ k * 2 ^ k ≡ x / 2 ^ k * 2 ^ (k - 12) * 4096
  in_frames =
      let e : k ≡ k - 12 + 12 = omega arith in
      ap (λ (n : ℕ). x / 2 ^ k * 2 ^ n) e ∙ ap (λ (n : ℕ). x / 2 ^ k * n) (pow-add 2 (k - 12) 12) ∙ sym (mul_assoc (x / 2 ^ k) (2 ^ (k - 12)) 4096)

  number_is : x / 2 ^ k * 2 ^ k / 4096 ≡ x / 2 ^ k * 2 ^ (k - 12)
  number_is = ap (λ (n : ℕ). n / 4096) in_frames ∙ omega arith

  pub number_small : x / 2 ^ k * 2 ^ k / 4096 < 2 ^ 22
  number_small = omega (arith, div-mul-le_self x (2 ^ k))

  -- "PPN bits below (shift - 12) are zero"
  pub number_even : x / 2 ^ k * 2 ^ k / 4096 % 2 ^ (k - 12) ≡ 0
  number_even = ap (λ (n : ℕ). n % 2 ^ (k - 12)) number_is ∙ mul-mod_left (x / 2 ^ k) (2 ^ (k - 12))

  -- the frame's address is the frame
  pub frame_back : x / 2 ^ k * 2 ^ k / 4096 * 2 ^ 12 % 2 ^ 32 ≡ x / 2 ^ k * 2 ^ k
  frame_back = omega (arith, in_frames, div-mul-le_self x (2 ^ k))
