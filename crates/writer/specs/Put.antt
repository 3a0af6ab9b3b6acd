-- What a function that writes into a lent buffer leaves there.
use Rattle.std.specs.Prelude.{List, ◌≡◌, ℕ, ◌+◌, ◌≤◌, length}
use Rattle.std.proofs.lemmas.List.Edits.{sets}

-- ys is stored from `at` on and nothing else changed; r is the place after it, at most `most` further
pub record Put (most : ℕ) (old new : List ℕ) (at r : ℕ) (ys : List ℕ) : Type 0 where
  pub next : r ≡ at + length ys
  pub room : r ≤ at + most
  pub bytes : new ≡ sets old at ys
