-- The laws of a contract that has no `requires` and says a plain fact.
use mathlib.Core.Path.{◌≡◌, sym, ◌∙◌}
use seplogic.Ra.Ura.{Ura}
use base.Logic.{ent, emp, id⊢}
use contract.Monad.{conj, conj_l, conj_r, fact, fact_i, fact_use}

module _ {M : Type 1} (𝓤 : Ura M) where
  -- it asks nothing
  pub free : Unit {0} × (Unit {0} → ent 𝓤 (emp 𝓤) (emp 𝓤))
  free = (tt, λ g. id⊢ 𝓤 (emp 𝓤))

  -- if the fact, P, fixes the result and what is left, no second answer satisfies it
  pub fixed : {G R W : Type 0} (P : R → W → Type 0) (f : R) (w : W) → ((r : R) (left : W) → P r left → (r ≡ f) × (left ≡ w))
      → (g g' : G) (r r' : R) (left left' : W) → ent 𝓤 (conj 𝓤 (fact 𝓤 (P r left)) (fact 𝓤 (P r' left'))) (fact 𝓤 ((r ≡ r') × (left ≡ left')))
  fixed P f w fix g g' r r' left left' =
      fact_use 𝓤 (P r left) (conj_l 𝓤 (fact 𝓤 (P r left)) (fact 𝓤 (P r' left'))) (λ p.
      fact_use 𝓤 (P r' left') (conj_r 𝓤 (fact 𝓤 (P r left)) (fact 𝓤 (P r' left'))) (λ p'.
      fact_i 𝓤 _ _ ((fix r left p).0 ∙ sym (fix r' left' p').0, (fix r left p).1 ∙ sym (fix r' left' p').1)))
