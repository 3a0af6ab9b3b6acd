-- What makes a contract a promise: it asks nothing, and no second answer satisfies it. It is said of what the checker makes of a function's
-- own text, in the crate's `specs.contracts`, and not of a copy:
--     ended      its signature, and which parameters are spoken of at exit
--     clauses    its `requires` and `ensures`
--     spec       the contract that it is proved to meet: its `Statement` says so, in the crate's `proofs`
use Rattle.std.specs.Prelude.{◌≡◌}
use seplogic.Ra.Ura.{Ura}
use base.Logic.{SProp, ent, emp}
use prog.Memory.{Memory}
use prog.Routine.{Routine}
use types.Logic.{Logic}
use contract.Lifetimes.{Lfts}
use contract.Monad.{Fun, conj, fact}
use denote.Triple.Entry.{Args, Res}
use denote.Triple.Spec.{Spec}
use denote.Triple.Clauses.{Ended, Clauses, ClausesAt, Lasts, at_exit, closing}

-- a contract is read in any model of the logic, with the logic's laws there, over any memory and any routines
abbrev pub InEach : ((M : Type 1) → Ura M → Type 2) → Type 2
InEach X = (M : Type 1) (𝓤 : Ura M) → (𝓛 : Logic 𝓤) → (Memory → SProp 𝓤) → (Routine → Fun 𝓤) → X M 𝓤

-- of one call, on the arguments a
module _ {M : Type 1} (𝓤 : Ura M) (ended : Ended) (κs : Lfts ended.signature.lifetimes) (a : Args ended.signature κs) (c : ClausesAt 𝓤 ended κs) where
  -- "for every input": a caller has to bring nothing
  abbrev pub AsksNothing : Type 1
  AsksNothing = c.ghost × ((g : c.ghost) → ent 𝓤 (emp 𝓤) (c.requires g))

  -- "no second answer could satisfy it": where the clauses hold of two answers, the results are the same and so is what is left in lent memory.
  -- `left` has what is at exit behind each `&mut`, the bytes of a `&mut [u8]`, and nothing of the other parameters
  abbrev pub OneAnswer : Type 1
  OneAnswer =
      (g g' : c.ghost) (r r' : Res ended.signature κs) (left left' : Lasts ended κs a)
      → ent 𝓤 (conj 𝓤 (c.ensures g r (at_exit ended κs a left)) (c.ensures g' r' (at_exit ended κs a left'))) (fact 𝓤 ((r ≡ r') × (left ≡ left')))

-- the clauses are all of the contract that the function is proved to meet, and both hold of every call
abbrev pub Promise : (ended : Ended) → InEach (λ M 𝓤. Clauses 𝓤 ended) → InEach (λ M 𝓤. Spec 𝓤 ended.signature) → Type 2
Promise ended clauses spec =
    (M : Type 1) (𝓤 : Ura M) (𝓛 : Logic 𝓤) (mem : Memory → SProp 𝓤) (run : Routine → Fun 𝓤)
    → (spec M 𝓤 𝓛 mem run ≡ closing 𝓛 ended (clauses M 𝓤 𝓛 mem run))
    × ((κs : Lfts ended.signature.lifetimes) (a : Args ended.signature κs)
    → AsksNothing 𝓤 ended κs a (clauses M 𝓤 𝓛 mem run κs a) × OneAnswer 𝓤 ended κs a (clauses M 𝓤 𝓛 mem run κs a))
