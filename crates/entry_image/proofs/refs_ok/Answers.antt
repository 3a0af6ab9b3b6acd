-- `refs_ok`: `all` over the entries' numbers is the whole test (`Refs`).
use Rattle.std.proofs.Common.{◌∙◌, ◌+◌, ◌*◌, leb, refl, arith, rules, tests}
use Rattle.std.proofs.lemmas.Iterator.{YieldsList-from_range}
use Rattle.std.proofs.lemmas.Iterator.Search.{all_from_yields_List}
use Rattle.layout.specs.Layout.{byte_at}
use Rattle.entry_image.proofs.Refs.{by_number}
use Rattle.entry_image.proofs.refs_ok.Goals as goal

pub returns : goal.returns
returns c =
    let a = c.args in
    all_from_yields_List (λ i. leb (byte_at a.s.now (a.at + 25 * i + 24)) 1) _ _ c.all.result c.all.ensures.ran (YieldsList-from_range 0 128 128 refl refl) (λ x b q k. search (rules, tests))
    ∙ by_number a.s.now a.at 0 128 a.at (omega arith)
