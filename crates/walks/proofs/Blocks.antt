-- Addresses alike from the end's shift up go down the same way. For every format, every list of widths and every RAM.
use Rattle.std.specs.Prelude.{Err, Ok, Result}
use Prim.Native.Nat.{ℕ, ◌+◌, ◌-◌, ◌/◌, ◌%◌, ◌^◌, ◌≤◌, ◌<◌}
use native.Mathlib.Nat.{le_refl, le_trans, lt_of_le_of_lt}
use native.Mathlib.Omega.{arith}
use mathlib.Core.Path.{◌≡◌, refl, sym, ap, ◌∙◌}
use mathlib.Core.List.{List, [], ◌∷◌}
use mathlib.Core.Bool.{Bool, true, false, cond}
use lib.ListN.{drop}
use lib.Pow.{shr-shr}
use Rattle.scheme.specs.Scheme.{total, widths_of, valid_of, shift_of, format_of}
use Rattle.scheme.specs.declared.PagingScheme.{PagingScheme}
use Rattle.scheme.proofs.Levels.{modest}
use Rattle.scheme.proofs.Widths.{valid, top_shift}
use Rattle.scheme.specs.declared.Format.{Format}
use Rattle.walker.specs.Descent.{place, entry_at, met_at, follow, seek, ended, top_ok, descent_in, descent_of}
use Rattle.walker.specs.declared.Reason.TheVariants.{WrongTop}
use Rattle.walker.specs.declared.Reason.{Reason}
use Rattle.walker.specs.declared.Met.{Met}
use Rattle.walker.specs.declared.Met.TheVariants.{Table, Leaf}
use Rattle.walker.specs.declared.Descent.{Descent}

-- addresses alike from bit j up are alike from bit k up
alike : (m n j k : ℕ) → j ≤ k → m / 2 ^ j ≡ n / 2 ^ j → m / 2 ^ k ≡ n / 2 ^ k
alike m n j k h e = more m ∙ ap (λ (x : ℕ). x / 2 ^ (k - j)) e ∙ sym (more n)
  where
    more : (n : ℕ) → n / 2 ^ k ≡ n / 2 ^ j / 2 ^ (k - j)
    more n = ap (λ (x : ℕ). n / 2 ^ x) (omega arith) ∙ sym (shr-shr n j (k - j))

module _ (f : Format) (ram : List ℕ) (offset : ℕ) where
  -- ---- the end's shift lies within the widths

  follow_shift : (m : Result Met Reason) (s level : ℕ) (go : ℕ → Descent) → ((t : ℕ) → (go t).shift ≤ s) → (follow m s level go).shift ≤ s
  unfolding follow
  follow_shift (Err why) s level go h = le_refl _
  follow_shift (Ok (Leaf l)) s level go h = le_refl _
  follow_shift (Ok (Table t)) s level go h = h t

  pub shift_high : (va : ℕ) (ws : List ℕ) (level t : ℕ) → (seek f ram va offset ws level t).shift ≤ offset + total ws
  unfolding seek total
  shift_high va [] level t = omega arith
  shift_high va (w ∷ ws) level t =
      le_trans (follow_shift _ (offset + total ws) level _ (shift_high va ws (level + 1))) (omega arith)

  pub shift_below_lem : (va w : ℕ) (ws : List ℕ) (level t : ℕ) → (seek f ram va offset (w ∷ ws) level t).shift ≤ offset + total ws
  unfolding seek
  shift_below_lem va w ws level t = follow_shift _ (offset + total ws) level _ (shift_high va ws (level + 1))

  follow_low : (m : Result Met Reason) (s level : ℕ) (go : ℕ → Descent) → offset ≤ s → ((t : ℕ) → offset ≤ (go t).shift) → offset ≤ (follow m s level go).shift
  unfolding follow
  follow_low (Err why) s level go k h = k
  follow_low (Ok (Leaf l)) s level go k h = k
  follow_low (Ok (Table t)) s level go k h = h t

  pub shift_low : (va : ℕ) (ws : List ℕ) (level t : ℕ) → offset ≤ (seek f ram va offset ws level t).shift
  unfolding seek
  shift_low va [] level t = le_refl _
  shift_low va (w ∷ ws) level t = follow_low _ (offset + total ws) level _ (omega arith) (shift_low va ws (level + 1))

  -- ---- the same way down

  module _ (va va' : ℕ) where
    entry_same : (t s w : ℕ) → va' / 2 ^ s ≡ va / 2 ^ s → entry_at f va' t s w ≡ entry_at f va t s w
    unfolding entry_at
    entry_same t s w e = ap (λ (x : ℕ). place f t (x % 2 ^ w)) e

    pub seek_same : (ws : List ℕ) (level t : ℕ) → va' / 2 ^ (seek f ram va offset ws level t).shift ≡ va / 2 ^ (seek f ram va offset ws level t).shift
        → seek f ram va' offset ws level t ≡ seek f ram va offset ws level t
    unfolding seek follow
    seek_same [] level t h = refl
    seek_same (w ∷ ws) level t h = go (met_at f ram s (entry_at f va t s w)) refl h (seek_same ws (level + 1))
      where
        s : ℕ
        s = offset + total ws

        -- down from the next table's frame
        rest : ℕ → ℕ → Descent
        rest v next = seek f ram v offset ws (level + 1) next

        met : va' / 2 ^ s ≡ va / 2 ^ s → met_at f ram s (entry_at f va' t s w) ≡ met_at f ram s (entry_at f va t s w)
        met e = ap (met_at f ram s) (entry_same t s w e)

        go : (m : Result Met Reason) → met_at f ram s (entry_at f va t s w) ≡ m
            → va' / 2 ^ (follow (met_at f ram s (entry_at f va t s w)) s level (rest va)).shift ≡ va / 2 ^ (follow (met_at f ram s (entry_at f va t s w)) s level (rest va)).shift
            → ((next : ℕ) → va' / 2 ^ (rest va next).shift ≡ va / 2 ^ (rest va next).shift → rest va' next ≡ rest va next)
            → follow (met_at f ram s (entry_at f va' t s w)) s level (rest va') ≡ follow (met_at f ram s (entry_at f va t s w)) s level (rest va)
        go (Err why) e h ih = rw (met (rw e at h), e)
        go (Ok (Leaf l)) e h ih = rw (met (rw e at h), e)
        go (Ok (Table next)) e h ih =
            let k : va' / 2 ^ (rest va next).shift ≡ va / 2 ^ (rest va next).shift = rw e at h in
            rw (met (alike va' va _ s (shift_high va ws (level + 1) next) k), e) (ih next k)

-- ---- the same of the whole descent

module _ (f : Format) (ram : List ℕ) (offset : ℕ) (ws : List ℕ) (root : ℕ) where
  abbrev wrong : Descent
  wrong = ended (Err WrongTop) (shift_of offset ws 0) 0

  -- where the descent ends, by what the top's test says
  abbrev by : ℕ → Bool → Descent
  by va b = cond b (seek f ram va offset ws 0 root) wrong

  seek_high : (va : ℕ) → (seek f ram va offset ws 0 root).shift ≤ shift_of offset ws 0
  unfolding shift_of
  seek_high va = go ws
    where
      go : (ws : List ℕ) → (seek f ram va offset ws 0 root).shift ≤ offset + total (drop 1 ws)
      go [] = shift_high f ram offset va [] 0 root
      go (w ∷ ws) = shift_below_lem f ram offset va w ws 0 root

  whole_high : (va : ℕ) → (descent_in f ram va offset ws root).shift ≤ shift_of offset ws 0
  unfolding descent_in
  whole_high va = go (top_ok f va)
    where
      go : (b : Bool) → (by va b).shift ≤ shift_of offset ws 0
      go true = seek_high va
      go false = le_refl _

  pub whole_low : (va : ℕ) → offset ≤ (descent_in f ram va offset ws root).shift
  unfolding descent_in shift_of
  whole_low va = go (top_ok f va)
    where
      go : (b : Bool) → offset ≤ (by va b).shift
      go true = shift_low f ram offset va ws 0 root
      go false = omega arith

  module _ (va va' : ℕ) where
    pub whole_alike : top_ok f va' ≡ top_ok f va
        → va' / 2 ^ (descent_in f ram va offset ws root).shift ≡ va / 2 ^ (descent_in f ram va offset ws root).shift
        → descent_in f ram va' offset ws root ≡ descent_in f ram va offset ws root
    unfolding descent_in
    whole_alike top e = ap (by va') top ∙ go (top_ok f va) e
      where
        go : (b : Bool) → va' / 2 ^ (by va b).shift ≡ va / 2 ^ (by va b).shift → by va' b ≡ by va b
        go true h = seek_same f ram offset va va' ws 0 root h
        go false h = refl

    -- where no shift is above the top, they have the same top
    pub whole_same : shift_of offset ws 0 ≤ f.top
        → va' / 2 ^ (descent_in f ram va offset ws root).shift ≡ va / 2 ^ (descent_in f ram va offset ws root).shift
        → descent_in f ram va' offset ws root ≡ descent_in f ram va offset ws root
    unfolding top_ok
    whole_same fits e = whole_alike (rw (alike va' va _ f.top (le_trans (whole_high va) fits) e)) e

-- ---- the same of a scheme's descent

module _ (ram : List ℕ) (root : ℕ) (s : PagingScheme) (va : ℕ) where
  module _ (ok : valid_of s ≡ true) where
    pub descent_low : 12 ≤ (descent_of ram root s va).shift
    unfolding descent_of
    descent_low = le_trans (valid s ok).offset_low (whole_low (format_of s) ram _ (widths_of s) root va)

    pub descent_high : (descent_of ram root s va).shift < 32
    unfolding descent_of
    descent_high = lt_of_le_of_lt (whole_high (format_of s) ram s.offset_bits (widths_of s) root va) (top_shift s (valid s ok))

    pub descent_same : (va' : ℕ) → va' / 2 ^ (descent_of ram root s va).shift ≡ va / 2 ^ (descent_of ram root s va).shift
        → descent_of ram root s va' ≡ descent_of ram root s va
    unfolding descent_of
    descent_same va' e =
        whole_same (format_of s) ram s.offset_bits (widths_of s) root va va' (omega (arith, top_shift s (valid s ok), (modest s).tall)) e
