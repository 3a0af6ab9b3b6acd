-- What a list of writes touches.
use Rattle.std.specs.Prelude.{ℕ, ◌+◌, ◌≤◌, List, [], ◌∷◌, ◌⊎◌}
use Rattle.plan.specs.Writes.{Write}

-- every write keeps clear of the bytes from x to y, y not among them
unfoldable pub Out : ℕ → ℕ → List Write → Type 0
Out x y [] = Unit
Out x y (w ∷ ws) = ((w.at + 4 ≤ x) ⊎ (y ≤ w.at)) × Out x y ws

-- no two writes touch
unfoldable pub Distinct : List Write → Type 0
Distinct [] = Unit
Distinct (w ∷ ws) = Out w.at (w.at + 4) ws × Distinct ws
