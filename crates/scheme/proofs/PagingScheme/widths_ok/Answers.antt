-- `widths_ok`: the definition is the test of each width.
use Rattle.std.proofs.Common.{rules, tests, refl, ◌∙◌, ◌&&◌}
use Rattle.std.proofs.lemmas.Iterator.{YieldsList-from_slice}
use Rattle.std.proofs.lemmas.Iterator.Search.{all_from_yields_List}
use Rattle.std.proofs.lemmas.List.Recursion.{same_from_clauses}
use Rattle.std.specs.List.{list_all}
use Rattle.scheme.specs.Scheme.{ok_widths, between, widths_of}
use Rattle.scheme.proofs.PagingScheme.widths_ok.Goals as goal

pub returns : goal.returns
unfolding ok_widths
returns c =
    all_from_yields_List (between 1 12) _ _ _ c.all.ensures.ran (YieldsList-from_slice (widths_of c.args.self) cc) (λ x b q k. search (rules, tests))
    ∙ same_from_clauses (list_all (between 1 12)) ok_widths (λ w b. between 1 12 w && b) refl (λ _ _. refl) (λ _ _. refl) (widths_of c.args.self)
