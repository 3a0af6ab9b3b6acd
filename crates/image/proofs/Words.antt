-- The numbers that are put, and those that are left; four widths, one by one.
use Prim.Native.Nat.{ℕ, ◌+◌, ◌≤◌, ◌<◌}
use native.Mathlib.Numerals.{add-one}
use native.Mathlib.Omega.{arith}
use mathlib.Core.Path.{◌≡◌, refl}
use mathlib.Core.List.{List, [], ◌∷◌, ◌++◌}
use lib.ListN.{length, get_or, drop, drop_of_length-le}
use lib.Seq.{drop-cons}
use Rattle.entry_image.specs.EntryImage.{le_bytes}
use Rattle.image.specs.Image.{words_image}

module _ (ws : List ℕ) (i : ℕ) where
  pub next_word : i < length ws → words_image (drop i ws) ≡ le_bytes 8 (get_or ws i 0) ++ words_image (drop (i + 1) ws)
  unfolding words_image
  next_word h = rw (add-one i, drop-cons ws i 0 h)

  pub no_word : length ws ≤ i → words_image (drop i ws) ≡ []
  unfolding words_image
  no_word h = rw (drop_of_length-le ws h)

-- a list of four is its four elements
pub four : (ws : List ℕ) → length ws ≡ 4 → ws ≡ get_or ws 0 0 ∷ get_or ws 1 0 ∷ get_or ws 2 0 ∷ get_or ws 3 0 ∷ []
four [] e = absurd (omega arith)
four (a ∷ []) e = absurd (omega arith)
four (a ∷ b ∷ []) e = absurd (omega arith)
four (a ∷ b ∷ c ∷ []) e = absurd (omega arith)
four (a ∷ b ∷ c ∷ d ∷ []) e = refl
four (a ∷ b ∷ c ∷ d ∷ x ∷ xs) e = absurd (omega arith)
