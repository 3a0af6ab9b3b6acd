-- The judgement looks at no A and no D: descents that are alike but for the marks come to verdicts that are.
use Rattle.std.specs.Prelude.{Err, Ok, Result}
use Rattle.walk.specs.declared.Fault.{Fault}
use Rattle.walker.specs.declared.LeafWord.{LeafWord}
use Prim.Native.Nat.{ℕ, ◌+◌}
use mathlib.Core.Path.{◌≡◌, refl, sym, ap, ◌∙◌}
use mathlib.Core.Bool.{Bool, true, false}
use Rattle.scheme.specs.declared.Format.{Format}
use Rattle.walker.specs.Descent.{top_ok}
use Rattle.walker.specs.declared.Reason.{Reason}
use Rattle.walker.specs.declared.Descent.{Descent}
use Rattle.walk.specs.Answer.{words_of}
use Rattle.walk.specs.Verdict.{fault_if, leaf_judged, end_judged, judge_of}
use Rattle.walk.specs.declared.Access.{Access}
use Rattle.walk.specs.declared.LeafAt.{LeafAt}
use Rattle.walks.specs.Plain.{plain, plain_end, plain_descent, plain_verdict}
use Rattle.walks.proofs.Steady.{plain_plain, perms_same}

push : (b : Bool) (why : Reason) (level : ℕ) (v : Result LeafAt Fault) → plain_verdict (fault_if b why level v) ≡ fault_if b why level (plain_verdict v)
unfolding plain_verdict fault_if
push true why level v = refl
push false why level v = refl

module _ (q : Access) (shift level : ℕ) where
  -- the judgement of a descent that is plain already
  pub end_plain : (e : Result LeafWord Reason) → plain_verdict (end_judged q shift level e) ≡ plain_verdict (end_judged q shift level (plain_end e))
  unfolding plain_end leaf_judged plain_verdict
  end_plain (Err why) = refl
  end_plain (Ok leaf) = simp (push, perms_same leaf.raw (plain leaf.raw) (sym (plain_plain leaf.raw)), plain_plain leaf.raw)

pub verdict_same : (q : Access) (d e : Descent) → plain_descent d ≡ plain_descent e → plain_verdict (judge_of q d) ≡ plain_verdict (judge_of q e)
unfolding judge_of plain_descent
verdict_same q d e h =
    end_plain q d.shift d.level d.end
    ∙ ap (λ (x : Descent). plain_verdict (end_judged q x.shift x.level x.end)) h
    ∙ sym (end_plain q e.shift e.level e.end)

-- each level on the way down asks for one word
module _ (f : Format) (q : Access) (right : top_ok f q.vaddr ≡ true) where
  words_if : (b : Bool) (why : Reason) (level : ℕ) (v : Result LeafAt Fault) → words_of f q.vaddr v ≡ level + 1 → words_of f q.vaddr (fault_if b why level v) ≡ level + 1
  unfolding fault_if
  words_if true why level v h = rw right
  words_if false why level v h = h

  words_of_lem : (shift level : ℕ) (e : Result LeafWord Reason) → words_of f q.vaddr (end_judged q shift level e) ≡ level + 1
  unfolding leaf_judged
  words_of_lem shift level (Err why) = rw right
  words_of_lem shift level (Ok leaf) =
      let l : LeafAt = record { raw = leaf.raw; at = leaf.at; shift = shift; level = level } in
      words_if _ _ level _ (words_if _ _ level (Ok l) refl)

  pub words_at : (d : Descent) → words_of f q.vaddr (judge_of q d) ≡ d.level + 1
  unfolding judge_of
  words_at d = words_of_lem d.shift d.level d.end
