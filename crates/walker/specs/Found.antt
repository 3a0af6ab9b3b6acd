-- What a search answers: refusal 1, "given exactly when": "the scheme is not valid", and else the descent.
use Rattle.std.specs.Prelude.{ℕ, List, cond, Err, Ok, Result}
use Rattle.scheme.specs.declared.refusal.Refusal.{Refusal}
use Rattle.walker.specs.declared.Descent.{Descent}
use Rattle.scheme.specs.Scheme.{valid_of}
use Rattle.scheme.specs.declared.PagingScheme.{PagingScheme}
use Rattle.scheme.specs.declared.refusal.Refusal.TheVariants.{BadScheme}
use Rattle.walker.specs.Descent.{descent_of}

unfoldable pub found_of : List ℕ → ℕ → PagingScheme → ℕ → Result Descent Refusal
found_of ram root s va = cond (valid_of s) (Ok (descent_of ram root s va)) (Err BadScheme)
