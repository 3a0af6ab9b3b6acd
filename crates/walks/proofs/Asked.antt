-- A descent that ends at a level has asked for one word at each level down to it.
use Rattle.std.specs.Prelude.{Err, Ok, Result}
use Prim.Native.Nat.{ℕ, suc, ◌+◌}
use native.Mathlib.Omega.{arith}
use mathlib.Core.Path.{◌≡◌}
use mathlib.Core.List.{List, [], ◌∷◌}
use lib.ListN.{length}
use Rattle.scheme.specs.Scheme.{total}
use Rattle.scheme.specs.declared.Format.{Format}
use Rattle.walker.specs.Descent.{follow, seek}
use Rattle.walker.specs.declared.Reason.{Reason}
use Rattle.walker.specs.declared.Met.{Met}
use Rattle.walker.specs.declared.Met.TheVariants.{Table, Leaf}
use Rattle.walks.specs.Asked.{below, asked_for}

module _ (f : Format) (ram : List ℕ) (va offset : ℕ) where
  -- what is asked for at a level and, where a table is met, below it
  met_asked : (ws : List ℕ) (level : ℕ) (met : Result Met Reason)
      → ((next : ℕ) → (seek f ram va offset ws (level + 1) next).level + 1 ≡ level + 1 + length (asked_for f ram va offset ws next))
      → (follow met (offset + total ws) level (λ (next : ℕ). seek f ram va offset ws (level + 1) next)).level + 1
      ≡ level + suc (length (below met (λ (next : ℕ). asked_for f ram va offset ws next)))
  unfolding follow
  met_asked ws level (Err why) rest = omega arith
  met_asked ws level (Ok (Leaf l)) rest = omega arith
  met_asked ws level (Ok (Table next)) rest = omega (arith, rest next)

  pub seek_asked : (w : ℕ) (ws : List ℕ) (level t : ℕ)
      → (seek f ram va offset (w ∷ ws) level t).level + 1 ≡ level + length (asked_for f ram va offset (w ∷ ws) t)
  unfolding seek asked_for
  seek_asked w [] level t = met_asked [] level _ (λ next. omega arith)
  seek_asked w (v ∷ vs) level t = met_asked (v ∷ vs) level _ (λ next. seek_asked v vs (level + 1) next)
