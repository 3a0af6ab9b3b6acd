-- The levels of a plan: their widths one by one, their bounds, and the ranges of their entries.
use Prim.Native.Nat.{ℕ, zero, suc, ◌+◌, ◌*◌, ◌^◌, ◌≤◌, ◌<◌}
use native.Mathlib.Omega.{arith}
use native.Mathlib.Numerals.{add-one}
use native.Mathlib.Nat.{mul-le-mul_right, suc-mul, lt_of_not-le}
use mathlib.Core.Path.{◌≡◌, refl, sym, ap, ◌∙◌}
use mathlib.Core.Bool.{Bool, true, false, true≢false, ◌&&◌}
use mathlib.Core.List.{List, [], ◌∷◌}
use mathlib.Core.Logic.{◌⊎◌, inl, inr, ⊎_elim}
use lib.Dec.{ltb}
use lib.ListN.{length, drop, drop_of_length-le}
use lib.Pow.{pow_mono, pow-add, pow_pos}
use lib.Seq.{drop-cons, length-take-le}
use borrow.Author.Tests.{lt-ltb, le-ltb, ltb-true, ltb-false}
use Rattle.scheme.specs.declared.PagingScheme.{PagingScheme}
use Rattle.scheme.specs.Scheme.{total, ok_widths, widths_of}
use Rattle.scheme.proofs.Widths.{bought, all_32, Valid, valid, ok_at, ok_rest}
use Rattle.plan.specs.declared.MapRule.{MapRule}
use Rattle.plan.specs.declared.MapRule.TheVariants.{Relative, Absolute}
use Rattle.plan.specs.declared.Plan.{Plan}
use Rattle.plan.specs.Map.{shift, inherited, has_level, opens}
use Rattle.plan.specs.Levels.{width_at, from, below, base_at, opens_at, Fit, At, Entry}

total_drop : (l : ℕ) (ws : List ℕ) → total (drop l ws) ≤ total ws
unfolding total
total_drop zero ws = omega arith
total_drop (suc l) [] = omega arith
total_drop (suc l) (w ∷ ws) = omega (arith, total_drop l ws)

ok_drop : (l : ℕ) (ws : List ℕ) → ok_widths ws ≡ true → ok_widths (drop l ws) ≡ true
ok_drop zero ws e = e
ok_drop (suc l) [] e = e
ok_drop (suc l) (w ∷ ws) e = ok_drop l ws (ok_rest w ws e)

total_cons : (w : ℕ) (ws : List ℕ) → total (w ∷ ws) ≡ w + total ws
unfolding total
total_cons w ws = refl

module _ (s : PagingScheme) (f : Fit s) where
  pub is_valid : Valid s
  is_valid = valid s (bought s f.valid)

  pub used_length : length (widths_of s) ≡ s.levels
  used_length = length-take-le s.levels s.level_bits (omega (arith, f.array, is_valid.four))

  pub from_cons : (l : ℕ) → l < s.levels → from s l ≡ width_at s l ∷ from s (l + 1)
  from_cons l h =
      let in-used : l < length (widths_of s) = omega (arith, used_length) in
      rw (add-one, drop-cons (widths_of s) l 0)

  pub from_none : (l : ℕ) → s.levels ≤ l → from s l ≡ []
  from_none l h =
      let out : length (widths_of s) ≤ l = omega (arith, used_length) in
      drop_of_length-le _ out

  pub ok_from : (l : ℕ) → ok_widths (from s l) ≡ true
  ok_from l = ok_drop l (widths_of s) is_valid.ok

  width_bounds : (l : ℕ) → l < s.levels → (1 ≤ width_at s l) × (width_at s l ≤ 12)
  width_bounds l h = ok_at (widths_of s) l is_valid.ok (omega (arith, used_length))

  pub bits_from_lem : (l : ℕ) → s.offset_bits + total (from s l) ≤ 32
  bits_from_lem l = omega (arith, total_drop l (widths_of s), all_32 s f.valid)

  -- one width more
  step_total : (l : ℕ) → l < s.levels → total (from s l) ≡ width_at s l + total (from s (l + 1))
  step_total l h = ap total (from_cons l h) ∙ total_cons (width_at s l) (from s (l + 1))

  -- a table has at most 4096 entries
  pub entries_bound : (l : ℕ) → l < s.levels → 2 ^ width_at s l ≤ 4096
  entries_bound l h = pow_mono (width_bounds l h).1

  -- every span lies in the 32 bits
  pub span_bound : (l : ℕ) → 2 ^ (s.offset_bits + total (from s l)) ≤ 2 ^ 32
  span_bound l = pow_mono (bits_from_lem l)

  -- an entry's span ends within the span of its table
  pub entry_span : (l i : ℕ) → l < s.levels → i < 2 ^ width_at s l
      → i * 2 ^ (s.offset_bits + total (from s (l + 1))) + 2 ^ (s.offset_bits + total (from s (l + 1)))
      ≤ 2 ^ (s.offset_bits + total (from s l))
  entry_span l i h below =
      let k = s.offset_bits + total (from s (l + 1)) in
      let w = width_at s l in
      let whole : s.offset_bits + total (from s l) ≡ w + k = omega (arith, step_total l h) in
      let more : suc i * 2 ^ k ≤ 2 ^ w * 2 ^ k = mul-le-mul_right (2 ^ k) below in
      rw (whole, pow-add 2 w k) (omega (arith, suc-mul i (2 ^ k)))

base_end : (r : MapRule) (parent x y whole : ℕ) → x + y ≤ whole → parent + whole ≤ 2 ^ 32 → inherited r parent + x + y ≤ 2 ^ 32
base_end Absolute parent x y whole h r = omega arith
base_end Relative parent x y whole h r = omega arith

module _ (p : Plan) (l parent i : ℕ) (e : Entry p l parent i) where
  -- an entry's range lies in the 32 bits, under both rules
  base_range : base_at p l parent i + 2 ^ shift p (below p l) ≤ 2 ^ 32
  unfolding base_at
  base_range =
      let a = e.is_at in
      base_end p.rule parent _ _ _ (entry_span p.scheme a.good.fit l i a.inside e.listed) a.range

  pub base_below : base_at p l parent i < 2 ^ 32
  base_below = omega (arith, base_range, pow_pos (shift p (below p l)))

-- an open entry is not at the last level
opens_level : (p : Plan) (l base : ℕ) → Fit p.scheme → opens_at p l base ≡ true → l + 1 < p.scheme.levels
unfolding opens_at opens
opens_level p l base f o = lt_of_not-le (λ h. true≢false (sym o ∙ ap (λ (ws : List ℕ). opens p ws base) (from_none p.scheme f (l + 1) h)))

-- an open entry's child table is itself at a level of the scheme
pub child_at : (p : Plan) (l parent i : ℕ) → Entry p l parent i → opens_at p l (base_at p l parent i) ≡ true → At p (l + 1) (base_at p l parent i)
child_at p l parent i e o =
    let g = e.is_at.good in
    record { good = g; inside = opens_level p l _ g.fit o; range = base_range p l parent i e }

lt_or_ge : (a b : ℕ) → (a < b) ⊎ (b ≤ a)
lt_or_ge a b = go (ltb a b) refl
  where
    go : (t : Bool) → ltb a b ≡ t → (a < b) ⊎ (b ≤ a)
    go true e = inl (ltb-true a b e)
    go false e = inr (ltb-false a b e)

has_level_lem : (s : PagingScheme) (l : ℕ) → Fit s → has_level (from s l) ≡ ltb l s.levels
has_level_lem s l f =
    ⊎_elim
    (λ h. ap has_level (from_cons s f l h) ∙ sym (lt-ltb l s.levels h))
    (λ h. ap has_level (from_none s f l h) ∙ sym (le-ltb l s.levels h))
    (lt_or_ge l s.levels)

-- whether an entry opens, by its level's number and its span
pub opens_is : (p : Plan) (l base span : ℕ) → Fit p.scheme → span ≡ 2 ^ shift p (below p l)
    → (ltb (l + 1) p.scheme.levels && (ltb p.window.start p.window.end && (ltb p.window.start (base + span) && ltb base p.window.end)))
    ≡ opens_at p l base
unfolding opens_at opens
opens_is p l base span f e = rw (has_level_lem p.scheme (l + 1) f, e)
