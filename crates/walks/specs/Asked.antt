-- The words that a descent asks for, by their places: the same way down as the descent's.
use Rattle.std.specs.Prelude.{ℕ, ◌+◌, cond, List, [], ◌∷◌, Err, Ok, Result}
use Rattle.scheme.specs.Scheme.{total}
use Rattle.scheme.specs.declared.Format.{Format}
use Rattle.walker.specs.Descent.{entry_at, met_at, top_ok}
use Rattle.walker.specs.declared.Reason.{Reason}
use Rattle.walker.specs.declared.Met.{Met}
use Rattle.walker.specs.declared.Met.TheVariants.{Table, Leaf}

-- the places below a table, where one was met
abbrev pub below : Result Met Reason → (ℕ → List ℕ) → List ℕ
below (Err why) go = []
below (Ok (Leaf leaf)) go = []
below (Ok (Table t)) go = go t

-- "At each level the index picks a word", "an unreadable one included"
unfoldable pub asked_for : Format → List ℕ → ℕ → ℕ → List ℕ → ℕ → List ℕ
asked_for f ram va offset [] t = []
asked_for f ram va offset (w ∷ ws) t =
    let at = entry_at f va t (offset + total ws) w in
    at ∷ below (met_at f ram (offset + total ws) at) (λ (next : ℕ). asked_for f ram va offset ws next)

-- none where the address's top is wrong
abbrev pub all_asked : Format → List ℕ → ℕ → ℕ → List ℕ → ℕ → List ℕ
all_asked f ram va offset ws root = cond (top_ok f va) (asked_for f ram va offset ws root) []
