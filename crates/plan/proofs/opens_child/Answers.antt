-- `opens_child`: the tests are the definition's, with the span computed.
use Rattle.plan.proofs.Laws.{opens_is}
use Rattle.plan.proofs.opens_child.Goals as goal

pub returns : goal.returns
returns c =
    opens_is c.args.p c.args.level c.args.base c.span_at.result c.requires.0.fit c.span_at.ensures.0
