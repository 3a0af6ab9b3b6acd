-- Marks change no walk: where two RAMs differ in A and D bits of aligned words alone, every walk ends alike in both.
-- For every format whose entry size divides a page and the address space.
use Rattle.std.specs.Prelude.{Err, Ok, Result}
use Prim.Native.Nat.{ℕ, ◌+◌, ◌/◌, ◌%◌, ◌^◌, ◌<◌, ◌∣◌}
use native.Mathlib.Nat.{dvd-add, dvd-mul_right, dvd-mul_left_of_dvd, dvd-mod_iff}
use native.Mathlib.Omega.{arith}
use mathlib.Core.Path.{◌≡◌, refl, sym, ap, ◌∙◌}
use mathlib.Core.List.{List, [], ◌∷◌}
use mathlib.Core.Bool.{Bool, true, false, not, cond}
use lib.ListN.{length}
use lib.Dec.{eqb}
use lib.Pow.{high, low, field, mod-mod-pow, shr-shr}
use Rattle.bits.specs.Bits.{bit}
use Rattle.pte.specs.Entry.{perms_of, ppn_of, high_bits}
use Rattle.scheme.specs.Scheme.{total, shift_of}
use Rattle.memory.specs.Word.{readable, le_at}
use Rattle.scheme.specs.declared.Format.{Format}
use Rattle.walker.specs.Descent.{frame, place, entry_at, bad_if, leaf_is, entry_is, met_at, follow, seek, ended, top_ok, descent_in}
use Rattle.walker.specs.declared.Reason.{Reason}
use Rattle.walker.specs.declared.Reason.TheVariants.{WrongTop}
use Rattle.walker.specs.declared.Met.{Met}
use Rattle.walker.specs.declared.Met.TheVariants.{Table, Leaf}
use Rattle.walker.specs.declared.Descent.{Descent}
use Rattle.walks.specs.Plain.{plain, plain_end, plain_descent, Sound}

unfoldable pub plain_met : Result Met Reason → Result Met Reason
plain_met (Err why) = Err why
plain_met (Ok (Table t)) = Ok (Table t)
plain_met (Ok (Leaf l)) = Ok (Leaf (record { raw = plain l.raw; at = l.at }))

-- ---- the checks look at no A and no D

bit_same : (j n w v : ℕ) → w % 2 ^ (j + (1 + n)) ≡ v % 2 ^ (j + (1 + n)) → bit n w ≡ bit n v
unfolding bit
bit_same j n w v h =
    ap (λ (d : ℕ). eqb d 1)
    (sym (field w 1 n)
    ∙ ap (λ (x : ℕ). x / 2 ^ n) (sym (mod-mod-pow w j (1 + n)) ∙ ap (λ (x : ℕ). x % 2 ^ (1 + n)) h ∙ mod-mod-pow v j (1 + n))
    ∙ field v 1 n)

module _ (w v : ℕ) (e : plain w ≡ plain v) where
  lows : (x : ℕ) → x % 2 ^ 6 < 2 ^ 8
  lows x = omega arith

  high_same : w / 2 ^ 8 ≡ v / 2 ^ 8
  high_same = sym (high (w / 2 ^ 8) 8 (lows w)) ∙ ap (λ (n : ℕ). n / 2 ^ 8) e ∙ high (v / 2 ^ 8) 8 (lows v)

  pub low_same : w % 2 ^ 6 ≡ v % 2 ^ 6
  low_same = sym (low (w / 2 ^ 8) 8 (lows w)) ∙ ap (λ (n : ℕ). n % 2 ^ 8) e ∙ low (v / 2 ^ 8) 8 (lows v)

  pub ppn_same : ppn_of w ≡ ppn_of v
  ppn_same = ap (λ (n : ℕ). n % 2 ^ 44) (sym (shr-shr w 8 2) ∙ ap (λ (n : ℕ). n / 2 ^ 2) high_same ∙ shr-shr v 8 2)

  high_bits_same : high_bits w ≡ high_bits v
  high_bits_same = ap (λ (n : ℕ). not (eqb n 0)) (sym (shr-shr w 8 46) ∙ ap (λ (n : ℕ). n / 2 ^ 46) high_same ∙ shr-shr v 8 46)

  -- bit n, where j more lie below bit 6
  flag : (j n : ℕ) → j + (1 + n) ≡ 6 → bit n w ≡ bit n v
  flag j n h = bit_same j n w v (rw h low_same)

  -- the rights and the user bit
  pub perms_same : perms_of w ≡ perms_of v
  perms_same = simp (flag 4 1 refl, flag 3 2 refl, flag 2 3 refl, flag 1 4 refl)

pub plain_plain : (w : ℕ) → plain (plain w) ≡ plain w
plain_plain w = omega arith

push : (b : Bool) (why : Reason) (m : Result Met Reason) → plain_met (bad_if b why m) ≡ bad_if b why (plain_met m)
unfolding plain_met bad_if
push true why m = refl
push false why m = refl

push_cond : (b : Bool) (m n : Result Met Reason) → plain_met (cond b m n) ≡ cond b (plain_met m) (plain_met n)
push_cond true m n = refl
push_cond false m n = refl

module _ (s a w v : ℕ) (e : plain w ≡ plain v) where
  leaf_same : plain_met (leaf_is s a w) ≡ plain_met (leaf_is s a v)
  unfolding leaf_is plain_met
  leaf_same = simp (push, ppn_same w v e, e)

  entry_same : plain_met (entry_is s a w) ≡ plain_met (entry_is s a v)
  unfolding entry_is plain_met
  entry_same = simp (push, push_cond, leaf_same, ppn_same w v e, high_bits_same w v e, flag w v e 5 0 refl, flag w v e 4 1 refl, flag w v e 3 2 refl, flag w v e 2 3 refl)

-- ---- two RAMs that differ in marks

pub record Same (f : Format) (ram ram' : List ℕ) : Type 0 where
  pub long : length ram ≡ length ram'
  pub words : (a : ℕ) → f.bytes ∣ a → plain (le_at f.bytes ram a) ≡ plain (le_at f.bytes ram' a)

-- every entry is aligned
pub entry_aligned : (f : Format) → Sound f → (va t s w : ℕ) → f.bytes ∣ entry_at f va t s w
unfolding entry_at place frame
entry_aligned f o va t s w =
    (dvd-mod_iff f.bytes o.in_space).1
    (dvd-add f.bytes ((dvd-mod_iff f.bytes o.in_space).1 (dvd-mul_left_of_dvd f.bytes o.in_page t)) (dvd-mul_right f.bytes _))

push_follow : (m : Result Met Reason) (s level : ℕ) (go : ℕ → Descent) → plain_descent (follow m s level go) ≡ follow (plain_met m) s level (λ (t : ℕ). plain_descent (go t))
unfolding follow plain_met plain_descent plain_end
push_follow (Err why) s level go = refl
push_follow (Ok (Table t)) s level go = refl
push_follow (Ok (Leaf l)) s level go = refl

follow_same : (m : Result Met Reason) (s level : ℕ) (go go' : ℕ → Descent) → ((t : ℕ) → go t ≡ go' t) → follow m s level go ≡ follow m s level go'
unfolding follow
follow_same (Err why) s level go go' h = refl
follow_same (Ok (Table t)) s level go go' h = h t
follow_same (Ok (Leaf l)) s level go go' h = refl

module _ (f : Format) (o : Sound f) (ram ram' : List ℕ) (same : Same f ram ram') where
  met_same : (s a : ℕ) → f.bytes ∣ a → plain_met (met_at f ram s a) ≡ plain_met (met_at f ram' s a)
  unfolding met_at readable
  met_same s a d = simp (push, same.long, entry_same s a (le_at f.bytes ram a) (le_at f.bytes ram' a) (same.words a d))

  pub seek_same : (va offset : ℕ) (ws : List ℕ) (level t : ℕ) → plain_descent (seek f ram va offset ws level t) ≡ plain_descent (seek f ram' va offset ws level t)
  unfolding seek
  seek_same va offset [] level t = refl
  seek_same va offset (w ∷ ws) level t =
      let s = offset + total ws in
      push_follow (met_at f ram s (entry_at f va t s w)) s level _
      ∙ ap (λ (m : Result Met Reason). follow m s level (λ (n : ℕ). plain_descent (seek f ram va offset ws (level + 1) n))) (met_same s (entry_at f va t s w) (entry_aligned f o va t s w))
      ∙ follow_same (plain_met (met_at f ram' s (entry_at f va t s w))) s level _ _ (seek_same va offset ws (level + 1))
      ∙ sym (push_follow (met_at f ram' s (entry_at f va t s w)) s level _)

  pub descent_same : (va offset : ℕ) (ws : List ℕ) (root : ℕ) → plain_descent (descent_in f ram va offset ws root) ≡ plain_descent (descent_in f ram' va offset ws root)
  unfolding descent_in
  descent_same va offset ws root = go (top_ok f va)
    where
      wrong : Descent
      wrong = ended (Err WrongTop) (shift_of offset ws 0) 0

      go : (b : Bool) → plain_descent (cond b (seek f ram va offset ws 0 root) wrong) ≡ plain_descent (cond b (seek f ram' va offset ws 0 root) wrong)
      go true = seek_same va offset ws 0 root
      go false = refl
