-- The used widths from a level on, how their sum goes down them, and what a valid scheme's widths are.
use Prim.Native.Nat.{ℕ, zero, suc, ◌+◌, ◌-◌, ◌*◌, ◌≤◌, ◌<◌}
use native.Mathlib.Numerals.{add-one}
use native.Mathlib.Omega.{arith}
use Rattle.std.specs.List.{sum_by}
use Rattle.std.proofs.lemmas.List.Recursion.{is_sum_by}
use Rattle.std.proofs.lemmas.List.Sums.{sum_by-take-drop, sum_by-take-le}
use mathlib.Core.Path.{◌≡◌, refl, ap, ◌∙◌}
use mathlib.Core.List.{List, [], ◌∷◌}
use mathlib.Core.Bool.{Bool, true, false, ◌&&◌, ◌||◌}
use lib.ListN.{length, get_or, take, drop, drop_of_length-le}
use lib.Seq.{drop-cons, get_or-take, length-take-le}
use lib.Dec.{leb, eqb}
use borrow.Author.Tests.{leb-true, eqb-true}
use Rattle.bits.proofs.Bools.{and_left, and_right}
use Rattle.scheme.specs.declared.PagingScheme.{PagingScheme}
use Rattle.scheme.specs.Scheme.{total, ok_widths, between, widths_of, total_bits, valid_of, is_sv39, bought_of, shift_of, format_of, sv32}

-- the first n of the widths l, from the i-th on: of a loop that goes up i, one step and the end
module _ (l : List ℕ) (n : ℕ) (long : n ≤ length l) where
  pub rest_cons : (i : ℕ) → i < n → drop i (take n l) ≡ get_or l i 0 ∷ drop (i + 1) (take n l)
  rest_cons i h = drop-cons (take n l) i 0 (rw (length-take-le n l long) h) ∙ rw (get_or-take n l i 0 h, add-one)

  pub rest_end : (i : ℕ) → n ≤ i → drop i (take n l) ≡ []
  rest_end i h = drop_of_length-le (take n l) {i = i} (rw (length-take-le n l long) h)

  -- the same of the sum of the widths
  pub total_cons : (i : ℕ) → i < n → total (drop i (take n l)) ≡ get_or l i 0 + total (drop (i + 1) (take n l))
  unfolding total
  total_cons i h = ap total (rest_cons i h)

  pub total_end : (i : ℕ) → n ≤ i → total (drop i (take n l)) ≡ 0
  unfolding total
  total_end i h = ap total (rest_end i h)

-- bytes, of which there are at most four, add up to little, wherever the sum starts
pub total_is : (ws : List ℕ) → total ws ≡ sum_by (λ w. w) ws
unfolding total
total_is ws = is_sum_by total (λ w. w) refl (λ _ _. refl) ws

total_bytes : (ws : List ℕ) → ((i : ℕ) → get_or ws i 0 < 256) → total ws ≤ 255 * length ws
unfolding total
total_bytes [] h = omega arith
total_bytes (w ∷ ws) h = omega (arith, h 0, total_bytes ws (λ i. h (suc i)))

pub total_drop : (ws : List ℕ) (i : ℕ) → total (drop i ws) ≤ total ws
total_drop ws i = omega (arith, sum_by-take-drop (λ w. w) ws i, total_is ws, total_is (drop i ws))

pub total_few : (l : List ℕ) (n i : ℕ) → length l ≡ 4 → ((i : ℕ) → get_or l i 0 < 256) → total (drop i (take n l)) ≤ 1020
total_few l n i four h =
    let part = sum_by-take-le (λ w. w) l n in
    omega (arith, total_drop (take n l) i, part, total_is (take n l), total_is l, total_bytes l h)

-- what validity gives
pub record Valid (s : PagingScheme) : Type 0 where
  pub offset_low : 12 ≤ s.offset_bits
  pub offset_high : s.offset_bits ≤ 30
  pub some : 1 ≤ s.levels
  pub four : s.levels ≤ 4
  pub ok : ok_widths (widths_of s) ≡ true
  pub least : 32 ≤ total_bits s
  pub most : total_bits s ≤ 39
  -- so that below any level there are fewer than 32 bits
  pub low : (i : ℕ) → i < length (widths_of s) → total_bits s - 31 ≤ get_or (widths_of s) i 0

pub between_low : (a b n : ℕ) → between a b n ≡ true → a ≤ n
between_low a b n e = leb-true a n (and_left _ _ e)

pub between_high : (a b n : ℕ) → between a b n ≡ true → n ≤ b
between_high a b n e = leb-true n b (and_right (leb a n) _ e)

-- the first of good widths is 1 to 12, and the others are good
pub ok_low : (w : ℕ) (ws : List ℕ) → ok_widths (w ∷ ws) ≡ true → 1 ≤ w
unfolding ok_widths
ok_low w ws e = between_low 1 12 w (and_left _ _ e)

pub ok_high : (w : ℕ) (ws : List ℕ) → ok_widths (w ∷ ws) ≡ true → w ≤ 12
unfolding ok_widths
ok_high w ws e = between_high 1 12 w (and_left _ _ e)

pub ok_rest : (w : ℕ) (ws : List ℕ) → ok_widths (w ∷ ws) ≡ true → ok_widths ws ≡ true
unfolding ok_widths
ok_rest w ws e = and_right (between 1 12 w) _ e

-- each of good widths is 1 to 12
pub ok_at : (ws : List ℕ) (i : ℕ) → ok_widths ws ≡ true → i < length ws → (1 ≤ get_or ws i 0) × (get_or ws i 0 ≤ 12)
ok_at [] i e h = absurd (omega arith)
ok_at (w ∷ ws) zero e h = (ok_low w ws e, ok_high w ws e)
ok_at (w ∷ ws) (suc i) e h = ok_at ws i (ok_rest w ws e) (omega arith)

-- a level's width and what lies below it are within the whole
pub total_at : (ws : List ℕ) (i : ℕ) → get_or ws i 0 + total (drop (suc i) ws) ≤ total ws
unfolding total
total_at [] i = omega arith
total_at (w ∷ ws) zero = omega arith
total_at (w ∷ ws) (suc i) = omega (arith, total_at ws i)

-- ---- document 01's schemes

module _ (s : PagingScheme) (e : bought_of s ≡ true) where
  widths : (ok_widths (widths_of s) ≡ true) × (total_bits s ≡ 32)
  unfolding bought_of
  widths =
      let l = and_right (between 1 4 s.levels) _ (and_right (between 12 30 s.offset_bits) _ e) in
      (and_left (ok_widths (widths_of s)) _ l, eqb-true _ _ (and_right (ok_widths (widths_of s)) _ l))

  pub all_32 : total_bits s ≡ 32
  all_32 = widths.1

  bought_valid : Valid s
  unfolding bought_of
  bought_valid =
      let offset = and_left (between 12 30 s.offset_bits) _ e in
      let count = and_left (between 1 4 s.levels) _ (and_right (between 12 30 s.offset_bits) _ e) in
      record {
        offset_low = between_low 12 30 _ offset;
        offset_high = between_high 12 30 _ offset;
        some = between_low 1 4 _ count;
        four = between_high 1 4 _ count;
        ok = widths.0;
        least = omega (arith, all_32);
        most = omega (arith, all_32);
        low = λ i h. omega (arith, all_32, (ok_at (widths_of s) i widths.0 h).0);
      }

-- ---- Sv39

-- the test says which scheme it is, but for a fourth width
pub record Is39 (s : PagingScheme) : Type 0 where
  pub offset : s.offset_bits ≡ 12
  pub three : s.levels ≡ 3
  pub widths : widths_of s ≡ 9 ∷ 9 ∷ 9 ∷ []

each_nine : (a b c : ℕ) → (eqb a 9 && eqb b 9) && eqb c 9 ≡ true → (a ≡ 9) × (b ≡ 9) × (c ≡ 9)
each_nine a b c e =
    let two = and_left (eqb a 9 && eqb b 9) (eqb c 9) e in (
      eqb-true a 9 (and_left (eqb a 9) (eqb b 9) two),
      eqb-true b 9 (and_right (eqb a 9) (eqb b 9) two),
      eqb-true c 9 (and_right (eqb a 9 && eqb b 9) (eqb c 9) e),
    )

nines : (l : List ℕ) → (get_or l 0 0 ≡ 9) × (get_or l 1 0 ≡ 9) × (get_or l 2 0 ≡ 9) → take 3 l ≡ 9 ∷ 9 ∷ 9 ∷ []
nines [] h = absurd (omega (arith, h.0))
nines (a ∷ []) h = absurd (omega (arith, h.1))
nines (a ∷ b ∷ []) h = absurd (omega (arith, h.2))
nines (a ∷ b ∷ c ∷ l) h = rw (h.0, h.1, h.2)

nine_at : (i : ℕ) → i < 3 → ◌≡◌ {A = ℕ} (get_or (9 ∷ 9 ∷ 9 ∷ []) i 0) 9
nine_at zero h = refl
nine_at (suc zero) h = refl
nine_at (suc (suc zero)) h = refl
nine_at (suc (suc (suc i))) h = absurd (omega arith)

module _ (s : PagingScheme) (e : is_sv39 s ≡ true) where
  pub is_39 : Is39 s
  unfolding is_sv39
  is_39 =
      let rest = and_right (eqb s.offset_bits 12) _ e in
      let three = eqb-true _ _ (and_left _ _ rest) in
      record {
        offset = eqb-true _ _ (and_left _ _ e);
        three = three;
        widths = ap (λ (n : ℕ). take n s.level_bits) three ∙ nines s.level_bits (each_nine _ _ _ (and_right (eqb s.levels 3) _ rest));
      }

  all_39 : total_bits s ≡ 39
  unfolding total
  all_39 = rw (is_39.offset, is_39.widths)

  valid_39 : Valid s
  unfolding ok_widths
  valid_39 = record {
    offset_low = omega (arith, is_39.offset);
    offset_high = omega (arith, is_39.offset);
    some = omega (arith, is_39.three);
    four = omega (arith, is_39.three);
    ok = rw is_39.widths;
    least = omega (arith, all_39);
    most = omega (arith, all_39);
    low = λ i h. omega (arith, all_39, ap (λ (ws : List ℕ). get_or ws i 0) is_39.widths, nine_at i (omega (arith, h, ap length is_39.widths)));
  }

-- ---- both

pub valid : (s : PagingScheme) → valid_of s ≡ true → Valid s
unfolding valid_of
valid s e = go (bought_of s) refl (is_sv39 s) refl e
  where
    go : (a : Bool) → bought_of s ≡ a → (b : Bool) → is_sv39 s ≡ b → a || b ≡ true → Valid s
    go true p b q h = bought_valid s p
    go false p true q h = valid_39 s q
    go false p false q h = let z : ◌≡◌ {A = ℕ} 0 1 = cc in absurd (omega arith)

module _ (s : PagingScheme) (e : bought_of s ≡ true) where
  pub bought : valid_of s ≡ true
  unfolding valid_of
  bought = rw e

  pub not_sv39 : is_sv39 s ≡ false
  not_sv39 = go (is_sv39 s) refl
    where
      go : (b : Bool) → is_sv39 s ≡ b → b ≡ false
      go false p = refl
      go true p = absurd (omega (arith, all_32 s e, all_39 s p))

  pub in_sv32 : format_of s ≡ sv32
  unfolding format_of
  in_sv32 = rw not_sv39

-- the top level's shift, and so every shift, is below 32
pub top_shift : (s : PagingScheme) → Valid s → shift_of s.offset_bits (widths_of s) 0 < 32
unfolding shift_of total
top_shift s v = go (widths_of s) v.least v.low
  where
    go : (ws : List ℕ) → 32 ≤ s.offset_bits + total ws → ((i : ℕ) → i < length ws → s.offset_bits + total ws - 31 ≤ get_or ws i 0)
        → s.offset_bits + total (drop 1 ws) < 32
    go [] e l = omega (arith, v.offset_high)
    go (w ∷ ws) e l = omega (arith, l 0 (omega arith))
