-- Which case of the judgement holds, and that a page it lets through was read where it says.
use Rattle.std.specs.Prelude.{Err, Ok, Result}
use Rattle.walk.specs.declared.Fault.{Fault}
use Rattle.walker.specs.declared.LeafWord.{LeafWord}
use Prim.Native.Nat.{ℕ}
use native.Mathlib.Omega.{arith}
use mathlib.Core.Path.{◌≡◌, ap, subst, sym}
use mathlib.Core.List.{List}
use mathlib.Core.Bool.{Bool, true, false, not}
use Rattle.pte.specs.Entry.{perms_of}
use Rattle.scheme.specs.Scheme.{widths_of, format_of}
use Rattle.scheme.specs.declared.PagingScheme.{PagingScheme}
use Rattle.walker.specs.Descent.{descent_of}
use Rattle.walker.specs.declared.Reason.{Reason}
use Rattle.walker.specs.declared.Reason.TheVariants.{NoRight, Privilege}
use Rattle.walker.specs.declared.Descent.{Descent}
use Rattle.walker.proofs.Ends.{Read, OfPage, whole_read}
use Rattle.walk.specs.Rights.{allows, open_to}
use Rattle.walk.specs.Verdict.{fault_if, leaf_judged, end_judged, judge_of, walk_of}
use Rattle.walk.specs.declared.Access.{Access}
use Rattle.walk.specs.declared.LeafAt.{LeafAt}

module _ (q : Access) where
  module _ (l : LeafAt) where
    pub no_right : not (allows q.kind (perms_of l.raw)) ≡ true → Err (record { why = NoRight; level = l.level }) ≡ leaf_judged q l
    unfolding leaf_judged fault_if
    no_right e = rw e

    pub privilege : not (allows q.kind (perms_of l.raw)) ≡ false → not (open_to q.mode (perms_of l.raw)) ≡ true → Err (record { why = Privilege; level = l.level }) ≡ leaf_judged q l
    unfolding leaf_judged fault_if
    privilege e f = rw (e, f)

    pub allowed : not (allows q.kind (perms_of l.raw)) ≡ false → not (open_to q.mode (perms_of l.raw)) ≡ false → Ok l ≡ leaf_judged q l
    unfolding leaf_judged fault_if
    allowed e f = rw (e, f)

  pub at_leaf : (d : Descent) (leaf : LeafWord) → d.end ≡ Ok leaf → leaf_judged q (record { raw = leaf.raw; at = leaf.at; shift = d.shift; level = d.level }) ≡ judge_of q d
  unfolding judge_of
  at_leaf d leaf e = rw e

  -- ---- a page that is let through is the descent's

  passed : (b : Bool) (why : Reason) (level : ℕ) (v : Result LeafAt Fault) (l : LeafAt) → fault_if b why level v ≡ Ok l → v ≡ Ok l
  unfolding fault_if
  passed false why level v l e = e
  passed true why level v l e = let z : ◌≡◌ {A = ℕ} 0 1 = cc in absurd (omega arith)

  pub end_page : (shift level : ℕ) (e : Result LeafWord Reason) (l : LeafAt) → end_judged q shift level e ≡ Ok l → e ≡ Ok (record { raw = l.raw; at = l.at })
  unfolding leaf_judged
  end_page shift level (Err why) l h = let z : ◌≡◌ {A = ℕ} 0 1 = cc in absurd (omega arith)
  end_page shift level (Ok leaf) l h =
      let q : Ok (record { raw = leaf.raw; at = leaf.at; shift = shift; level = level }) ≡ Ok l = passed _ _ _ _ l (passed _ _ _ _ l h) in
      let k : record { raw = leaf.raw; at = leaf.at; shift = shift; level = level } ≡ l = cc in
      ap (λ (x : LeafAt). Ok (record { raw = x.raw; at = x.at })) k

  -- and has the descent's shift
  shift_of : (shift level : ℕ) (e : Result LeafWord Reason) (l : LeafAt) → end_judged q shift level e ≡ Ok l → l.shift ≡ shift
  unfolding leaf_judged
  shift_of shift level (Err why) l h = let z : ◌≡◌ {A = ℕ} 0 1 = cc in absurd (omega arith)
  shift_of shift level (Ok leaf) l h =
      let p : Ok (record { raw = leaf.raw; at = leaf.at; shift = shift; level = level }) ≡ Ok l = passed _ _ _ _ l (passed _ _ _ _ l h) in
      let k : record { raw = leaf.raw; at = leaf.at; shift = shift; level = level } ≡ l = cc in
      ap (λ (x : LeafAt). x.shift) (sym k)

  pub end_shift : (d : Descent) (l : LeafAt) → judge_of q d ≡ Ok l → l.shift ≡ d.shift
  unfolding judge_of
  end_shift d l h = shift_of d.shift d.level d.end l h

  -- an accepted leaf was readable, and is the word in RAM
  pub leaf_read : (s : PagingScheme) (root : ℕ) (ram : List ℕ) (l : LeafAt) → walk_of s root ram q ≡ Ok l → Read (format_of s) ram l.raw l.at
  unfolding judge_of descent_of
  leaf_read s root ram l h =
      let f = format_of s in
      let e = end_page _ _ (descent_of ram root s q.vaddr).end l h in
      subst (OfPage f (Read f ram)) e (whole_read f ram q.vaddr s.offset_bits (widths_of s) root)
