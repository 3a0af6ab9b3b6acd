-- `walk_valid`: the verdict is the definition's, and the answer and the marks are read off it; a leaf that it accepts was readable, so it can be marked.
use mathlib.Core.Path.{◌≡◌, ap, subst⁻¹, ◌∙◌}
use mathlib.Core.Bool.{true}
use Rattle.memory.specs.Word.{readable}
use Rattle.scheme.specs.Scheme.{Modest}
use Rattle.scheme.specs.declared.Format.{Format}
use Rattle.scheme.proofs.Levels.{modest}
use Rattle.walker.proofs.Cases.{said}
use Rattle.walk.specs.Answer.{result_of, words_to, mark_in}
use Rattle.walk.specs.Verdict.{judge_of, walk_of}
use Rattle.walk.proofs.Judged.{leaf_read}
use Rattle.walk.proofs.walk_valid.Goals.{After-judge-verdict}
use Rattle.walk.proofs.walk_valid.Goals as goal

-- the verdict is what the definition says, from the root's frame
judged : (c : After-judge-verdict) → c.judge-verdict.result ≡ (let a = c.args in walk_of a.scheme a.root a.ram.now a.access)
judged c = c.judge-verdict.ensures ∙ ap (judge_of c.args.access) c.descend.ensures

is_modest : (c : After-judge-verdict) → Modest c.format-f.result
is_modest c = subst⁻¹ Modest c.format-f.ensures (modest _)

-- the leaf was read where it is to be marked
pub mark-requires : goal.mark-requires
mark-requires c =
    let read = (leaf_read _ _ _ _ _ (said (judged (goal.at.mark-requires c).After-judge-verdict) c.in-Ok.is)).in_ram in
    subst⁻¹ (λ (f : Format). readable f.space f.bytes c.args.ram.now c.in-Ok.leaf.at ≡ true) c.format-f.ensures read

pub page-requires : goal.page-requires
page-requires c = is_modest (goal.at.page-requires c).After-judge-verdict

pub returns-in-Err : goal.returns-in-Err
returns-in-Err c =
    let e = said (judged (goal.at.returns-in-Err c).After-judge-verdict) c.in-Err.is in
    let a = c.args in
    let n = c.words_to-words.ensures ∙ ap (λ (f : Format). words_to f a.access.vaddr c.in-Err.stop.level) c.format-f.ensures in
    (rw (e, c.page_fault_cause-cause.ensures, n), rw e)

pub returns-in-Ok : goal.returns-in-Ok
returns-in-Ok c =
    let a = c.args in
    let l = c.in-Ok.leaf in
    let e = said (judged (goal.at.returns-in-Ok c).After-judge-verdict) c.in-Ok.is in (
      rw (e, c.page.ensures ∙ ap (λ (f : Format). result_of f a.access.vaddr l) c.format-f.ensures, c.from-words.ensures),
      rw e (c.mark.ensures ∙ ap (λ (f : Format). mark_in f a.access.kind a.ram.now l.at l.raw) c.format-f.ensures),
    )
