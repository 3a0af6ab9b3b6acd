-- `judge_leaf`: one case of the definition for each way out.
use mathlib.Core.Path.{◌≡◌, ◌∙◌, ap}
use mathlib.Core.Bool.{not}
use Rattle.pte.specs.Entry.{perms_of}
use Rattle.walker.proofs.Cases.{said}
use Rattle.walk.specs.Rights.{allows, open_to}
use Rattle.walk.proofs.Judged.{no_right, privilege, allowed}
use Rattle.walk.proofs.judge_leaf.Goals.{After-open_to, After-permits}
use Rattle.walk.proofs.judge_leaf.Goals as goal

-- what the tests say of the leaf's word
right_said : (c : After-permits) → not c.permits.result ≡ not (allows c.args.access.kind (perms_of c.args.leaf.raw))
right_said c = ap not (c.permits.ensures ∙ ap (allows c.args.access.kind) (c.perms-p.ensures ∙ ap perms_of c.new.ensures))

mode_said : (c : After-open_to) → not c.open_to.result ≡ not (open_to c.args.access.mode (perms_of c.args.leaf.raw))
mode_said c = ap not (c.open_to.ensures ∙ ap (open_to c.args.access.mode) (c.perms-p.ensures ∙ ap perms_of c.new.ensures))

pub returns-then-not-permits : goal.returns-then-not-permits
returns-then-not-permits c = no_right _ _ (said (right_said (goal.at.returns-then-not-permits c).After-permits) c.if-not-permits.true-raw)

pub returns-then-not-open_to : goal.returns-then-not-open_to
returns-then-not-open_to c = privilege _ _ (said (right_said (goal.at.returns-then-not-open_to c).After-permits) c.if-not-permits.false-raw) (said (mode_said (goal.at.returns-then-not-open_to c).After-open_to) c.if-not-open_to.true-raw)

pub returns : goal.returns
returns c = allowed _ _ (said (right_said (goal.at.returns c).After-permits) c.if-not-permits.false-raw) (said (mode_said (goal.at.returns c).After-open_to) c.if-not-open_to.false-raw)
