-- Marks change no walk: RAM with a leaf's word marked differs from what it was in A and D alone, so every walk over it ends alike.
use Rattle.std.specs.Prelude.{Err, Ok, Result}
use Rattle.walk.specs.declared.Fault.{Fault}
use Rattle.walk.specs.declared.LeafAt.{LeafAt}
use Rattle.walker.specs.declared.LeafWord.{LeafWord}
use Rattle.walker.specs.declared.Reason.{Reason}
use Prim.Native.Nat.{ℕ, suc, ◌+◌, ◌*◌, ◌/◌, ◌%◌, ◌^◌, ◌≤◌, ◌<◌, ◌∣◌}
use native.Mathlib.Nat.{mod-lt, pow-succ'}
use native.Mathlib.Decide.{dec_lt}
use native.Mathlib.Omega.{arith}
use mathlib.Core.Path.{◌≡◌, refl, sym, subst, ◌∙◌}
use mathlib.Core.List.{List}
use mathlib.Core.Bool.{Bool, true, false, cond}
use lib.ListN.{length}
use lib.Dec.{eqb, lit<}
use Rattle.bits.specs.Bits.{bit, with_bit}
use Rattle.bits.proofs.Flags.{Digit, is0, is1, digit}
use Rattle.memory.specs.Word.{le_at, put_at}
use Rattle.memory.proofs.Reading.{readable_in}
use Rattle.memory.proofs.Laws.{length_put, read_same, read_other, word_lt, aligned_apart}
use Rattle.scheme.specs.declared.access.AccessType.{AccessType}
use Rattle.scheme.specs.declared.access.AccessType.TheVariants.{Fetch, Load, Store}
use Rattle.scheme.specs.declared.Format.{Format}
use Rattle.walker.specs.Descent.{descent_in}
use Rattle.walker.proofs.Ends.{Read, OfPage, of_page, whole, met_leaf, met_at_lem}
use Rattle.walk.specs.Answer.{mark_of, mark_in, marked_by}
use Rattle.walk.specs.Verdict.{end_judged, judge_of, verdict_in}
use Rattle.walk.specs.declared.Access.{Access}
use Rattle.walk.proofs.Judged.{end_page}
use Rattle.walks.specs.Plain.{plain, Bytes, Sound}
use Rattle.walks.proofs.Steady.{Same, entry_aligned}

-- ---- a mark keeps the plain word, and fits where the word did

module _ (w : ℕ) where
  plain_by : (v : ℕ) → v / 2 ^ 8 ≡ w / 2 ^ 8 → v % 2 ^ 6 ≡ w % 2 ^ 6 → plain v ≡ plain w
  plain_by v h l = rw (h, l)

  a_plain : Digit (w / 2 ^ 6 % 2) → plain (with_bit 6 w) ≡ plain w
  unfolding with_bit bit
  a_plain (is1 e) = rw e
  a_plain (is0 e) = rw e (plain_by (w + 2 ^ 6) (omega arith) (omega arith))

  d_plain : Digit (w / 2 ^ 7 % 2) → plain (with_bit 7 w) ≡ plain w
  unfolding with_bit bit
  d_plain (is1 e) = rw e
  d_plain (is0 e) = rw e (plain_by (w + 2 ^ 7) (omega arith) (omega arith))

  a_fits : (q : ℕ) → w < 256 * q → Digit (w / 2 ^ 6 % 2) → with_bit 6 w < 256 * q
  unfolding with_bit bit
  a_fits q h (is1 e) = rw e h
  a_fits q h (is0 e) = rw e (omega arith)

  d_fits : (q : ℕ) → w < 256 * q → Digit (w / 2 ^ 7 % 2) → with_bit 7 w < 256 * q
  unfolding with_bit bit
  d_fits q h (is1 e) = rw e h
  d_fits q h (is0 e) = rw e (omega arith)

pub digit_of_lem : (n w : ℕ) → Digit (w / 2 ^ n % 2)
digit_of_lem n w = digit (w / 2 ^ n % 2) (mod-lt (w / 2 ^ n) (lit< tt))

pub mark_plain : (kind : AccessType) (w : ℕ) → plain (mark_of kind w) ≡ plain w
mark_plain Fetch w = a_plain w (digit_of_lem 6 w)
mark_plain Load w = a_plain w (digit_of_lem 6 w)
mark_plain Store w = d_plain (with_bit 6 w) (digit_of_lem 7 (with_bit 6 w)) ∙ a_plain w (digit_of_lem 6 w)

mark_fits : (kind : AccessType) (w q : ℕ) → w < 256 * q → mark_of kind w < 256 * q
mark_fits Fetch w q h = a_fits w q h (digit_of_lem 6 w)
mark_fits Load w q h = a_fits w q h (digit_of_lem 6 w)
mark_fits Store w q h = d_fits (with_bit 6 w) q (a_fits w q h (digit_of_lem 6 w)) (digit_of_lem 7 (with_bit 6 w))

mark_fits_in : (n : ℕ) (kind : AccessType) (w : ℕ) → 0 < n → w < 256 ^ n → mark_of kind w < 256 ^ n
mark_fits_in Prim.Native.Nat.zero kind w p h = elim p [ ]
mark_fits_in (suc m) kind w p h = rw (pow-succ' 256 m) (mark_fits kind w (256 ^ m) (rw (pow-succ' 256 m) at h))

equal? : (a b : ℕ) → Dec (a ≡ b)
equal? a b = pick (dec_lt a b) (dec_lt b a)
  where
    pick : Dec (a < b) → Dec (b < a) → Dec (a ≡ b)
    pick (yes l) r = no (λ e. omega arith)
    pick (no g) (yes l) = no (λ e. omega arith)
    pick (no g) (no h) = yes (omega arith)

same_self : (f : Format) (ram : List ℕ) → Same f ram ram
same_self f ram = record { long = refl; words = λ a d. refl }

either_same : (f : Format) (ram x y : List ℕ) (b : Bool) → Same f ram x → Same f ram y → Same f ram (cond b x y)
either_same f ram x y true p q = p
either_same f ram x y false p q = q

-- ---- marking an aligned word of RAM

module _ (f : Format) (o : Sound f) (kind : AccessType) (ram : List ℕ) (small : Bytes ram) where
  module _ (a : ℕ) (d : f.bytes ∣ a) (fits : a + f.bytes ≤ length ram) where
    abbrev mark : ℕ
    mark = mark_of kind (le_at f.bytes ram a)

    put_word : (b : ℕ) → f.bytes ∣ b → Dec (a ≡ b) → plain (le_at f.bytes ram b) ≡ plain (le_at f.bytes (put_at f.bytes ram a mark) b)
    put_word b q (yes e) =
        rw (sym e, read_same f.bytes ram a mark fits (mark_fits_in f.bytes kind _ o.some (word_lt f.bytes ram a small)))
        (sym (mark_plain kind _))
    put_word b q (no ne) = rw (read_other f.bytes ram a mark f.bytes b (aligned_apart f.bytes a b d q ne))

    put_same : Same f ram (put_at f.bytes ram a mark)
    put_same = record { long = sym (length_put f.bytes ram a mark); words = λ b q. put_word b q (equal? a b) }

    mark_same : (w : ℕ) → le_at f.bytes ram a ≡ w → Same f ram (mark_in f kind ram a w)
    unfolding mark_in
    mark_same w e = rw (sym e) (either_same f ram ram _ (eqb mark (le_at f.bytes ram a)) (same_self f ram) put_same)

-- ---- what a walk marks

module _ (f : Format) (o : Sound f) (ram : List ℕ) (small : Bytes ram) (q : Access) where
  abbrev Marked : ℕ → ℕ → Type 0
  Marked w a = Read f ram w a × (f.bytes ∣ a)

  marked_same : (shift level : ℕ) (e : Result LeafWord Reason) → OfPage f Marked e → (v : Result LeafAt Fault) → end_judged q shift level e ≡ v → Same f ram (marked_by f q.kind ram v)
  marked_same shift level e h (Err stop) p = same_self f ram
  marked_same shift level e h (Ok l) p =
      let m = subst (OfPage f Marked) (end_page q shift level e l p) h in
      mark_same f o q.kind ram small l.at m.1 (readable_in f.space f.bytes ram l.at m.0.in_ram) l.raw m.0.word

  pub walk_same : (offset : ℕ) (ws : List ℕ) (root : ℕ) → Same f ram (marked_by f q.kind ram (verdict_in f offset ws root ram q))
  unfolding judge_of
  walk_same offset ws root =
      marked_same _ _ (descent_in f ram q.vaddr offset ws root).end
      (whole f Marked ram q.vaddr offset ws root (of_page f Marked ram q.vaddr offset
      (λ t s w l e. (met_leaf f ram s _ l e, subst (λ (n : ℕ). f.bytes ∣ n) (met_at_lem f ram s _ l e) (entry_aligned f o q.vaddr t s w)))
      ws 0 root))
      _ refl
