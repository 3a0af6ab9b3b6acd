-- Plain walks: what is heard and earned looks past A and D, and every access to a leaf's page comes to that leaf.
use Rattle.std.specs.Prelude.{Err, Ok, Result}
use Rattle.walk.specs.declared.Fault.{Fault}
use Rattle.walker.specs.declared.LeafWord.{LeafWord}
use Prim.Native.Nat.{ℕ, ◌/◌, ◌^◌, ◌≤◌, ◌<◌}
use mathlib.Core.Path.{◌≡◌, refl, sym, ap, subst, ◌∙◌}
use mathlib.Core.Bool.{Bool, true, false, not, cond, ◌&&◌}
use mathlib.Core.List.{List}
use Rattle.pte.specs.Entry.{perms_of, ppn_of}
use Rattle.scheme.specs.Access.{cause_of}
use Rattle.scheme.specs.Scheme.{widths_of, valid_of, format_of}
use Rattle.scheme.specs.declared.Format.{Format}
use Rattle.scheme.proofs.Levels.{modest}
use Rattle.scheme.specs.declared.PagingScheme.{PagingScheme}
use Rattle.walker.specs.Descent.{ended, descent_of}
use Rattle.walker.specs.declared.Reason.{Reason}
use Rattle.walker.specs.declared.Reason.TheVariants.{NoRight, Privilege}
use Rattle.walker.specs.declared.Descent.{Descent}
use Rattle.walk.specs.Rights.{allows, open_to}
use Rattle.walk.specs.Answer.{marked_by, mark_in, physical_of}
use Rattle.walk.specs.Verdict.{fault_if, leaf_judged, end_judged, judge_of, walk_of}
use Rattle.walk.specs.declared.Access.{Access}
use Rattle.walk.specs.declared.LeafAt.{LeafAt}
use Rattle.walk.proofs.Judged.{leaf_read}
use Rattle.walks.specs.Plain.{plain, plain_verdict, Bytes}
use Rattle.walks.proofs.Steady.{plain_plain, ppn_same, Same, descent_same}
use Rattle.walks.proofs.Verdicts.{verdict_same}
use Rattle.walks.proofs.Blocks.{whole_low, descent_high}
use Rattle.walks.proofs.Claims.{ours_is_sound, scheme_blocks}
use Rattle.access.specs.Translate.{is_store}
use Rattle.order.specs.Runs.{At, Faults}
use Rattle.order.specs.Plain.{verdict_heard, verdict_marks}
use Rattle.order.proofs.Marks.{byte_marked, byte_comm, byte_again, byte_bytes, word_byte}

-- ---- the marks of a verdict, on a byte

unfoldable pub byte_marks : Access → Result LeafAt Fault → List ℕ → List ℕ
byte_marks q (Ok l) ram = byte_marked q.kind l.at ram
byte_marks q (Err stop) ram = ram

pub marks_byte : (f : Format) → 0 < f.bytes → (q : Access) (v : Result LeafAt Fault) (ram : List ℕ) → Bytes ram → verdict_marks f q v ram ≡ byte_marks q v ram
unfolding verdict_marks byte_marks
marks_byte f some q (Ok l) ram small = word_byte q.kind ram l.at small f some
marks_byte f some q (Err stop) ram small = refl

pub marks_comm : (q p : Access) (v w : Result LeafAt Fault) (ram : List ℕ) → byte_marks q v (byte_marks p w ram) ≡ byte_marks p w (byte_marks q v ram)
unfolding byte_marks
marks_comm q p (Err stop) w ram = refl
marks_comm q p (Ok l) (Err stop) ram = refl
marks_comm q p (Ok l) (Ok n) ram = byte_comm q.kind p.kind l.at n.at ram

pub marks_bytes : (q : Access) (v : Result LeafAt Fault) (ram : List ℕ) → Bytes ram → Bytes (byte_marks q v ram)
unfolding byte_marks
marks_bytes q (Ok l) ram small = byte_bytes q.kind l.at ram small
marks_bytes q (Err stop) ram small = small

-- ---- A and D are not looked at

module _ (q : Access) where
  heard_plain : (f : Format) (v : Result LeafAt Fault) → verdict_heard f q v ≡ verdict_heard f q (plain_verdict v)
  unfolding verdict_heard plain_verdict
  heard_plain f (Ok l) = ap (λ (n : ℕ). At (physical_of f n l.shift q.vaddr)) (ppn_same l.raw (plain l.raw) (sym (plain_plain l.raw)))
  heard_plain f (Err stop) = refl

  marks_plain : (v : Result LeafAt Fault) (ram : List ℕ) → byte_marks q v ram ≡ byte_marks q (plain_verdict v) ram
  unfolding byte_marks plain_verdict
  marks_plain (Ok l) ram = refl
  marks_plain (Err stop) ram = refl

  module _ (v w : Result LeafAt Fault) (e : plain_verdict v ≡ plain_verdict w) where
    pub heard_same : (f : Format) → verdict_heard f q v ≡ verdict_heard f q w
    heard_same f = heard_plain f v ∙ ap (verdict_heard f q) e ∙ sym (heard_plain f w)

    pub marks_same : (ram : List ℕ) → byte_marks q v ram ≡ byte_marks q w ram
    marks_same ram = marks_plain v ram ∙ ap (λ (x : Result LeafAt Fault). byte_marks q x ram) e ∙ sym (marks_plain w ram)

-- ---- walks over RAM

module _ (s : PagingScheme) (root : ℕ) where
  -- a walk over RAM that differs in marks ends alike
  pub walk_alike : (ram ram' : List ℕ) → Same (format_of s) ram ram' → (q : Access) → plain_verdict (walk_of s root ram q) ≡ plain_verdict (walk_of s root ram' q)
  unfolding descent_of
  walk_alike ram ram' same q =
      verdict_same q _ _ (descent_same (format_of s) (ours_is_sound s) ram ram' same q.vaddr s.offset_bits (widths_of s) root)

  -- what a walk writes are the marks of its verdict
  pub walk_marks : (ram : List ℕ) (q : Access) → Bytes ram → marked_by (format_of s) q.kind ram (walk_of s root ram q) ≡ byte_marks q (walk_of s root ram q) ram
  unfolding byte_marks
  walk_marks ram q small = go (walk_of s root ram q) refl
    where
      go : (v : Result LeafAt Fault) → walk_of s root ram q ≡ v → marked_by (format_of s) q.kind ram v ≡ byte_marks q v ram
      go (Err stop) e = refl
      go (Ok l) e =
          ap (mark_in (format_of s) q.kind ram l.at) (sym (leaf_read q s root ram l e).word)
          ∙ word_byte q.kind ram l.at small (format_of s) (modest s).some

-- ---- the judgement of a leaf

module _ (q : Access) (l : LeafAt) where
  judged_heard : (f : Format) (x y : Bool) →
      verdict_heard f q (fault_if (not x) NoRight l.level (fault_if (not y) Privilege l.level (Ok l)))
      ≡ cond (x && y) (At (physical_of f (ppn_of l.raw) l.shift q.vaddr)) (Faults (cause_of q.kind) q.vaddr)
  unfolding verdict_heard fault_if
  judged_heard f true true = refl
  judged_heard f true false = refl
  judged_heard f false y = refl

  pub leaf_heard : (f : Format) → verdict_heard f q (leaf_judged q l)
      ≡ cond (allows q.kind (perms_of l.raw) && open_to q.mode (perms_of l.raw))
      (At (physical_of f (ppn_of l.raw) l.shift q.vaddr)) (Faults (cause_of q.kind) q.vaddr)
  unfolding leaf_judged
  leaf_heard f = judged_heard f (allows q.kind (perms_of l.raw)) (open_to q.mode (perms_of l.raw))

  module _ (p : Access) (ram : List ℕ) (h : is_store q.kind && not (is_store p.kind) ≡ false) where
    judged_rests : (x y : Bool) →
        byte_marks q (fault_if (not x) NoRight l.level (fault_if (not y) Privilege l.level (Ok l))) (byte_marks p (Ok l) ram) ≡ byte_marks p (Ok l) ram
    unfolding byte_marks fault_if
    judged_rests true true = byte_again q.kind p.kind l.at ram h
    judged_rests true false = refl
    judged_rests false y = refl

    -- an access that needs no more than p earns nothing more at p's leaf
    pub leaf_rests : byte_marks q (leaf_judged q l) (byte_marks p (Ok l) ram) ≡ byte_marks p (Ok l) ram
    unfolding leaf_judged
    leaf_rests = judged_rests (allows q.kind (perms_of l.raw)) (open_to q.mode (perms_of l.raw))

passed : (b : Bool) (why : Reason) (level : ℕ) (v : Result LeafAt Fault) (l : LeafAt) → fault_if b why level v ≡ Ok l → v ≡ Ok l
unfolding fault_if
passed false why level v l e = e
passed true why level v l e = absurd cc

leaf_page : (q : Access) (l n : LeafAt) → leaf_judged q l ≡ Ok n → l ≡ n
unfolding leaf_judged
leaf_page q l n h = let e : Ok l ≡ Ok n = passed _ _ _ _ n (passed _ _ _ _ n h) in cc

-- an accepted leaf is where the descent ended
end_leaf : (q : Access) (shift level : ℕ) (e : Result LeafWord Reason) (l : LeafAt) → end_judged q shift level e ≡ Ok l
    → ended e shift level ≡ ended (Ok (record { raw = l.raw; at = l.at })) l.shift l.level
end_leaf q shift level (Err why) l h = absurd cc
end_leaf q shift level (Ok leaf) l h = ap (λ (x : LeafAt). ended (Ok (record { raw = x.raw; at = x.at })) x.shift x.level) (leaf_page q _ l h)

-- ---- the page of a leaf

module _ (s : PagingScheme) (root : ℕ) (ram : List ℕ) (p : Access) (l : LeafAt) (met : walk_of s root ram p ≡ Ok l) where
  down : descent_of ram root s p.vaddr ≡ ended (Ok (record { raw = l.raw; at = l.at })) l.shift l.level
  unfolding judge_of
  down = end_leaf p _ _ (descent_of ram root s p.vaddr).end l met

  shift_is : (descent_of ram root s p.vaddr).shift ≡ l.shift
  shift_is = ap (λ (d : Descent). d.shift) down

  pub offset_below : s.offset_bits ≤ l.shift
  unfolding descent_of
  offset_below = subst (λ (n : ℕ). s.offset_bits ≤ n) shift_is (whole_low (format_of s) ram s.offset_bits (widths_of s) root p.vaddr)

  pub shift_within : valid_of s ≡ true → l.shift < 32
  shift_within ok = subst (λ (n : ℕ). n < 32) shift_is (descent_high ram root s p.vaddr ok)

  -- an access to an address of the page is judged by the same leaf
  pub same_leaf : valid_of s ≡ true → (q : Access) → q.vaddr / 2 ^ l.shift ≡ p.vaddr / 2 ^ l.shift → walk_of s root ram q ≡ leaf_judged q l
  unfolding judge_of
  same_leaf ok q h =
      let k = rw (← shift_is) at h in
      ap (judge_of q) ((scheme_blocks s root ram p.vaddr ok).alike q.vaddr k ∙ down)
