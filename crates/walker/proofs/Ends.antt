-- Where a walk can end, for every format, every list of widths and every RAM: at a leaf that was read there, and within the levels.
use Rattle.std.specs.Prelude.{Err, Ok, Result}
use Rattle.walker.specs.declared.LeafWord.{LeafWord}
use Prim.Native.Nat.{ℕ, ◌+◌, ◌<◌}
use native.Mathlib.Omega.{arith}
use mathlib.Core.Path.{◌≡◌, refl, sym, ap, subst, ◌∙◌}
use mathlib.Core.List.{List, [], ◌∷◌}
use mathlib.Core.Bool.{Bool, true, false, cond}
use borrow.Author.Tests.{not-false}
use Rattle.pte.specs.Entry.{leaf_of}
use lib.ListN.{length}
use Rattle.memory.specs.Word.{readable, le_at}
use Rattle.scheme.specs.declared.Format.{Format}
use Rattle.walker.specs.Descent.{entry_at, bad_if, leaf_is, entry_is, met_at, follow, seek, ended, top_ok, descent_in}
use Rattle.scheme.specs.Scheme.{shift_of}
use Rattle.walker.specs.declared.Reason.TheVariants.{WrongTop}
use Rattle.walker.specs.declared.Reason.{Reason}
use Rattle.walker.specs.declared.Met.{Met}
use Rattle.walker.specs.declared.Met.TheVariants.{Table, Leaf}
use Rattle.walker.specs.declared.Descent.{Descent}

-- ---- an entry that is a leaf has passed every check

passed : (b : Bool) (why : Reason) (m : Result Met Reason) (l : LeafWord) → bad_if b why m ≡ Ok (Leaf l) → (b ≡ false) × (m ≡ Ok (Leaf l))
unfolding bad_if
passed false why m l e = (refl, e)
passed true why m l e = let z : ◌≡◌ {A = ℕ} 0 1 = cc in absurd (omega arith)

no_table : (b : Bool) (m : Result Met Reason) (t : ℕ) (l : LeafWord) → cond b m (Ok (Table t)) ≡ Ok (Leaf l) → m ≡ Ok (Leaf l)
no_table true m t l e = e
no_table false m t l e = let z : ◌≡◌ {A = ℕ} 0 1 = cc in absurd (omega arith)

-- ---- a leaf is the word at its address

abbrev word_at : ℕ → ℕ → LeafWord
word_at w a = record { raw = w; at = a }

same_leaf : (k l : LeafWord) → ◌≡◌ {A = Result Met Reason} (Ok (Leaf k)) (Ok (Leaf l)) → k ≡ l
same_leaf k l e = cc

leaf_is_lem : (s a w : ℕ) (l : LeafWord) → leaf_is s a w ≡ Ok (Leaf l) → word_at w a ≡ l
unfolding leaf_is
leaf_is_lem s a w l e = same_leaf _ l (passed _ _ _ l e).1

entry_leaf : (s a w : ℕ) (l : LeafWord) → entry_is s a w ≡ Ok (Leaf l) → word_at w a ≡ l
unfolding entry_is
entry_leaf s a w l e = leaf_is_lem s a w l (no_table (leaf_of w) _ _ l (passed _ _ _ l (passed _ _ _ l (passed _ _ _ l e).1).1).1)

module _ (f : Format) where
  pub record Read (ram : List ℕ) (w a : ℕ) : Type 0 where
    pub in_ram : readable f.space f.bytes ram a ≡ true
    pub word : le_at f.bytes ram a ≡ w

  pub met_at_lem : (ram : List ℕ) (s a : ℕ) (l : LeafWord) → met_at f ram s a ≡ Ok (Leaf l) → a ≡ l.at
  unfolding met_at
  met_at_lem ram s a l e = ap (λ (k : LeafWord). k.at) (entry_leaf s a _ l (passed _ _ _ l e).1)

  pub met_leaf : (ram : List ℕ) (s a : ℕ) (l : LeafWord) → met_at f ram s a ≡ Ok (Leaf l) → Read ram l.raw l.at
  unfolding met_at
  met_leaf ram s a l e =
      let h = passed _ _ _ l e in
      let same = entry_leaf s a _ l h.1 in
      let q : a ≡ l.at = ap (λ (k : LeafWord). k.at) same in
      let p : le_at f.bytes ram a ≡ l.raw = ap (λ (k : LeafWord). k.raw) same in
      record {
        in_ram = subst (λ (k : ℕ). readable f.space f.bytes ram k ≡ true) q (not-false _ h.0);
        word = ap (le_at f.bytes ram) (sym q) ∙ p;
      }

  -- what holds of a word and its address, if the walk ends at a page
  abbrev pub OfPage : (ℕ → ℕ → Type 0) → Result LeafWord Reason → Type 0
  OfPage P (Ok leaf) = P leaf.raw leaf.at
  OfPage P (Err why) = Unit

  module _ (P : ℕ → ℕ → Type 0) where
    follow_page : (m : Result Met Reason) (s level : ℕ) (go : ℕ → Descent)
        → ((l : LeafWord) → m ≡ Ok (Leaf l) → P l.raw l.at) → ((t : ℕ) → OfPage P (go t).end) → OfPage P (follow m s level go).end
    unfolding follow
    follow_page (Err why) s level go h k = tt
    follow_page (Ok (Leaf l)) s level go h k = h l refl
    follow_page (Ok (Table t)) s level go h k = k t

    -- it holds of every leaf that the walk could meet
    pub of_page : (ram : List ℕ) (va offset : ℕ) → ((t s w : ℕ) (l : LeafWord) → met_at f ram s (entry_at f va t s w) ≡ Ok (Leaf l) → P l.raw l.at)
        → (ws : List ℕ) (level t : ℕ) → OfPage P (seek f ram va offset ws level t).end
    unfolding seek
    of_page ram va offset h [] level t = tt
    of_page ram va offset h (w ∷ ws) level t = follow_page _ _ level _ (h t _ w) (of_page ram va offset h ws (level + 1))

  -- a page was read where it says
  pub page_read : (ram : List ℕ) (va offset : ℕ) (ws : List ℕ) (level t : ℕ) → OfPage (Read ram) (seek f ram va offset ws level t).end
  page_read ram va offset = of_page (Read ram) ram va offset (λ t s w l. met_leaf ram s (entry_at f va t s w) l)

  -- the same of the whole descent: a wrong top is no page
  pub whole : (P : ℕ → ℕ → Type 0) (ram : List ℕ) (va offset : ℕ) (ws : List ℕ) (root : ℕ)
      → OfPage P (seek f ram va offset ws 0 root).end → OfPage P (descent_in f ram va offset ws root).end
  unfolding descent_in
  whole P ram va offset ws root h = go (top_ok f va)
    where
      go : (b : Bool) → OfPage P (cond b (seek f ram va offset ws 0 root) (ended (Err WrongTop) (shift_of offset ws 0) 0)).end
      go true = h
      go false = tt

  pub whole_read : (ram : List ℕ) (va offset : ℕ) (ws : List ℕ) (root : ℕ) → OfPage (Read ram) (descent_in f ram va offset ws root).end
  whole_read ram va offset ws root = whole (Read ram) ram va offset ws root (page_read ram va offset ws 0 root)

  -- ---- the walk ends within the levels, so it asks for no more words than there are levels

  follow_level : (n : ℕ) (m : Result Met Reason) (s level : ℕ) (go : ℕ → Descent) → level < n → ((t : ℕ) → (go t).level < n) → (follow m s level go).level < n
  unfolding follow
  follow_level n (Err why) s level go h k = h
  follow_level n (Ok (Leaf l)) s level go h k = h
  follow_level n (Ok (Table t)) s level go h k = k t

  pub ends_within : (ram : List ℕ) (va offset : ℕ) (ws : List ℕ) (level t n : ℕ) → 0 < n → n ≡ level + length ws → (seek f ram va offset ws level t).level < n
  unfolding seek
  ends_within ram va offset [] level t n h e = omega arith
  ends_within ram va offset (w ∷ ws) level t n h e =
      follow_level n _ _ level _ (omega arith) (λ (next : ℕ). ends_within ram va offset ws (level + 1) next n h (omega arith))
