-- The page classes of a scheme: how many there are, which level each is of, that they go up, and how an array is filled
-- with them from the top level on.
use Prim.Native.Nat.{ℕ, suc, ◌+◌, ◌-◌, ◌≤◌, ◌<◌}
use native.Mathlib.Nat.{eq-or-lt_of_le}
use native.Mathlib.Numerals.{add-one}
use native.Mathlib.Omega.{arith}
use mathlib.Core.Path.{◌≡◌, refl, sym, ap, ◌∙◌}
use mathlib.Core.Logic.{⊎_elim}
use mathlib.Core.List.{List, [], ◌∷◌, ◌++◌, append_assoc}
use mathlib.Core.Bool.{true}
use lib.ListN.{length, get_or, drop, set, length-append, get_or-append, length-drop, drop_of_length-le}
use lib.Seq.{drop-cons, get_or_at, set-append_seam, length-take-le}
use Rattle.std.specs.Prelude.{Ok}
use Rattle.scheme.specs.declared.PagingScheme.{PagingScheme}
use Rattle.scheme.specs.Scheme.{total, ok_widths, widths_of, bought_of, valid_of, shift_of, classes, leaf_masks, sv32_scheme, padded}
use Rattle.scheme.proofs.Widths.{Valid, ok_at, total_at}

pub length_classes : (ws : List ℕ) → length (classes ws) ≡ length ws
unfolding classes
length_classes [] = refl
length_classes (w ∷ ws) = length-append (classes ws) (total ws ∷ []) ∙ omega (arith, length_classes ws)

-- class i is the sum of the last i widths: it is a class of the lower levels, or the top level's, which is the last
pub class_total : (ws : List ℕ) (i : ℕ) → i < length ws → get_or (classes ws) i 0 ≡ total (drop (length ws - i) ws)
unfolding classes
class_total [] i h = absurd (omega arith)
class_total (w ∷ ws) i h = ⊎_elim last (λ l. below l (class_total ws i l)) (eq-or-lt_of_le (omega arith)) where
  last : i ≡ length ws → get_or (classes ws ++ (total ws ∷ [])) i 0 ≡ total (drop (suc (length ws) - i) (w ∷ ws))
  last e =
      let one : suc (length ws) - i ≡ 1 = omega arith in
      get_or_at (classes ws) (total ws) [] 0 i (length_classes ws ∙ sym e) ∙ sym (ap (λ (n : ℕ). total (drop n (w ∷ ws))) one)

  below : i < length ws → get_or (classes ws) i 0 ≡ total (drop (length ws - i) ws)
      → get_or (classes ws ++ (total ws ∷ [])) i 0 ≡ total (drop (suc (length ws) - i) (w ∷ ws))
  below l e =
      let more : suc (length ws) - i ≡ suc (length ws - i) = omega arith in
      get_or-append (classes ws) (total ws ∷ []) 0 i (rw (length_classes ws) l)
      ∙ e
      ∙ sym (ap (λ (n : ℕ). total (drop n (w ∷ ws))) more)

module _ (ws : List ℕ) (i : ℕ) where
  -- class i is the shift of the level that is i above the last, less the offset
  pub class_at : (offset : ℕ) → i < length ws → get_or (classes ws) i 0 ≡ shift_of offset ws (length ws - 1 - i) - offset
  unfolding shift_of
  class_at offset h =
      let k : length ws - i ≡ suc (length ws - 1 - i) = omega arith in
      class_total ws i h ∙ ap (λ (n : ℕ). total (drop n ws)) k ∙ omega arith

  pub ascending : ok_widths ws ≡ true → suc i < length ws → get_or (classes ws) i 0 < get_or (classes ws) (suc i) 0
  unfolding total
  ascending ok h =
      let level = length ws - suc i in
      let k : length ws - i ≡ suc level = omega arith in
      let low = class_total ws i (omega arith) ∙ ap (λ (n : ℕ). total (drop n ws)) k in
      let high = class_total ws (suc i) h ∙ ap total (drop-cons ws level 0 (omega arith)) in
      omega (arith, low, high, (ok_at ws level ok (omega arith)).0)

-- no class of a valid scheme is above 19
pub class_high : (s : PagingScheme) → length s.level_bits ≡ 4 → Valid s
    → (i : ℕ) → i < s.levels → get_or (classes (widths_of s)) i 0 ≤ 19
class_high s four v i h =
    let ws = widths_of s in
    let n : length ws ≡ s.levels = length-take-le s.levels s.level_bits (omega (arith, v.four)) in
    let level = length ws - 1 - i in
    let k : length ws - i ≡ suc level = omega arith in
    let is = class_total ws i (omega arith) ∙ ap (λ (n : ℕ). total (drop n ws)) k in
    omega (arith, is, total_at ws level, v.low level (omega arith), v.least, v.offset_low)

-- Sv32's, worked out
pub sv32_valid : valid_of sv32_scheme ≡ true
unfolding valid_of bought_of ok_widths total
sv32_valid = refl

pub sv32_classes : padded (classes (widths_of sv32_scheme)) ≡ 0 ∷ 10 ∷ 0 ∷ 0 ∷ []
unfolding total classes
sv32_classes = refl

pub sv32_masks : leaf_masks sv32_scheme ≡ Ok (record { masks = 0 ∷ 10 ∷ 0 ∷ 0 ∷ []; count = 2 })
unfolding leaf_masks valid_of bought_of ok_widths total classes
sv32_masks = refl

-- the array is filled from the last level up: its class goes behind those of the levels below
abbrev zeros : List ℕ
zeros = 0 ∷ 0 ∷ 0 ∷ 0 ∷ []

class_put : (cs : List ℕ) (v i : ℕ) → length cs ≡ i → i < 4 → set (padded cs) i v ≡ padded (cs ++ (v ∷ []))
class_put cs v i e h =
    rw (
      sym e,
      drop-cons zeros (length cs) 0 (omega (arith, e)),
      set-append_seam cs (get_or zeros (length cs) 0) (drop (suc (length cs)) zeros) v,
      length-append cs (v ∷ []),
      add-one,
      append_assoc cs (v ∷ []) (drop (suc (length cs)) zeros),
    )

module _ (ws : List ℕ) (n : ℕ) (count : length ws ≡ n) where
  pub class_none : zeros ≡ padded (classes (drop (n - 0) ws))
  unfolding classes
  class_none = rw (drop_of_length-le ws {i = n - 0} (omega arith))

  pub class_more : (i : ℕ) → i < n → n ≤ 4 → set (padded (classes (drop (n - i) ws))) i (total (drop (n - i) ws)) ≡ padded (classes (drop (n - (i + 1)) ws))
  unfolding classes
  class_more i h four =
      let above : n - i ≡ suc (n - (i + 1)) = omega arith in
      let rest = drop (suc (n - (i + 1))) ws in
      let at : length (classes rest) ≡ i = omega (arith, length_classes rest, length-drop (suc (n - (i + 1))) ws) in
      rw (drop-cons ws (n - (i + 1)) 0 (omega arith), above) (class_put (classes rest) (total rest) i at (omega arith))
