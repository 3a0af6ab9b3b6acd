-- A second look into a set that missed finds nothing, and a second flush of a set changes nothing.
use Rattle.std.specs.Prelude.{Option, Some, None}
use Prim.Native.Nat.{ℕ, zero, suc, ◌+◌, ◌*◌}
use mathlib.Core.Path.{◌≡◌, refl, sym, ap, ◌∙◌}
use mathlib.Core.Bool.{Bool, true, false, cond, ◌||◌}
use mathlib.Core.List.{List, [], ◌∷◌}
use lib.Dec.{eqb}
use borrow.Author.Tests.{eqb-true}
use Rattle.entry.specs.Entry.{matches_of, invalid_of, cleared_of}
use Rattle.entry.specs.declared.TlbEntry.{TlbEntry}
use Rattle.slots.specs.Slots.{wanted_of, first_in, map_in}
use Rattle.slots.proofs.SlotLaws.{map_none}
use Rattle.tlb.specs.Cache.{Shape, set_of, slot_of, or_slot, find_from, clear_sets}
use Rattle.caches.specs.Terms.{among, find_once, clear_once}

-- whatever is known of every set seen, and of one more
more_seen : (K : ℕ → Type 0) (g : ℕ) (seen : List ℕ) → K g → ((h : ℕ) → among h seen ≡ true → K h) → (h : ℕ) → among h (g ∷ seen) ≡ true → K h
unfolding among
more_seen K g seen k f h q = go (eqb h g) refl q
  where
    go : (b : Bool) → eqb h g ≡ b → (b || among h seen) ≡ true → K h
    go true e r = rw (eqb-true h g e) k
    go false e r = f h r

none_seen : (K : ℕ → Type 0) (h : ℕ) → among h [] ≡ true → K h
unfolding among
none_seen K h q = absurd cc

module _ (s : Shape) (vpn asid : ℕ) (es : List TlbEntry) where
  -- a look into set g finds nothing
  abbrev Missed : ℕ → Type 0
  Missed g = first_in (wanted_of false vpn asid) es (g * s.ways) (g * s.ways + s.ways) ≡ None

  once_from : (ms seen : List ℕ) → ((h : ℕ) → among h seen ≡ true → Missed h) → find_once s seen ms vpn asid es ≡ find_from s ms vpn asid es
  unfolding find_once find_from
  once_from [] seen f = refl
  once_from (m ∷ ms) seen f =
      go (among (set_of s vpn m) seen) refl (slot_of s vpn asid es m) refl (once_from ms seen f)
      (λ k. once_from ms (set_of s vpn m ∷ seen) (more_seen Missed (set_of s vpn m) seen k f))
    where
      go : (b : Bool) → among (set_of s vpn m) seen ≡ b → (k : Option ℕ) → slot_of s vpn asid es m ≡ k →
          find_once s seen ms vpn asid es ≡ find_from s ms vpn asid es →
          (Missed (set_of s vpn m) → find_once s (set_of s vpn m ∷ seen) ms vpn asid es ≡ find_from s ms vpn asid es) →
          cond b (find_once s seen ms vpn asid es) (or_slot (slot_of s vpn asid es m) (find_once s (set_of s vpn m ∷ seen) ms vpn asid es)) ≡
          or_slot (slot_of s vpn asid es m) (find_from s ms vpn asid es)
      go true q k r old new = rw (f (set_of s vpn m) q) old
      go false q (Some i) r old new = rw r
      go false q None r old new = rw r (new r)

  pub find_once_lem : (ms : List ℕ) → find_once s [] ms vpn asid es ≡ find_from s ms vpn asid es
  find_once_lem ms = once_from ms [] (none_seen Missed)

-- a flush of slots in a row: twice is once, and two go in either order
module _ (f : TlbEntry → TlbEntry) (twice : (e : TlbEntry) → f (f e) ≡ f e) where
  map_twice : (a n : ℕ) (es : List TlbEntry) → map_in f a n (map_in f a n es) ≡ map_in f a n es
  unfolding map_in
  map_twice a n [] = refl
  map_twice zero zero (x ∷ xs) = refl
  map_twice zero (suc n) (x ∷ xs) = rw (twice x, map_twice zero n xs)
  map_twice (suc a) n (x ∷ xs) = rw (map_twice a n xs)

  map_swap : (a n b m : ℕ) (es : List TlbEntry) → map_in f a n (map_in f b m es) ≡ map_in f b m (map_in f a n es)
  unfolding map_in
  map_swap a n b m [] = refl
  map_swap zero zero b m (x ∷ xs) = map_none f 0 (map_in f b m (x ∷ xs))
  map_swap zero (suc n) zero zero (x ∷ xs) = refl
  map_swap zero (suc n) zero (suc m) (x ∷ xs) = rw (map_swap zero n zero m xs)
  map_swap zero (suc n) (suc b) m (x ∷ xs) = rw (map_swap zero n b m xs)
  map_swap (suc a) n zero zero (x ∷ xs) = refl
  map_swap (suc a) n zero (suc m) (x ∷ xs) = rw (map_swap a n zero m xs)
  map_swap (suc a) n (suc b) m (x ∷ xs) = rw (map_swap a n b m xs)

-- an entry flushed of a page is flushed of it
clear_twice : (vpn : ℕ) (e : TlbEntry) → cleared_of false vpn (cleared_of false vpn e) ≡ cleared_of false vpn e
unfolding matches_of
clear_twice vpn e = go (matches_of e vpn e.asid) refl
  where
    go : (b : Bool) → matches_of e vpn e.asid ≡ b → cleared_of false vpn (cond b (invalid_of e) e) ≡ cond b (invalid_of e) e
    go true q = refl
    go false q = ap (λ (b : Bool). cond b (invalid_of e) e) q

module _ (s : Shape) (vpn : ℕ) where
  -- flushing set g
  abbrev flushed : ℕ → List TlbEntry → List TlbEntry
  flushed g es = map_in (cleared_of false vpn) (g * s.ways) s.ways es

  clear_from : (ms seen : List ℕ) (es : List TlbEntry) → ((h : ℕ) → among h seen ≡ true → flushed h es ≡ es) →
      clear_once s seen ms vpn es ≡ clear_sets s ms vpn es
  unfolding clear_once clear_sets
  clear_from [] seen es f = refl
  clear_from (m ∷ ms) seen es f =
      go (among (set_of s vpn m) seen) refl (clear_from ms seen es f)
      (clear_from ms (set_of s vpn m ∷ seen) (flushed (set_of s vpn m) es)
      (more_seen (λ (h : ℕ). flushed h (flushed (set_of s vpn m) es) ≡ flushed (set_of s vpn m) es) (set_of s vpn m) seen
      (map_twice (cleared_of false vpn) (clear_twice vpn) (set_of s vpn m * s.ways) s.ways es)
      (λ h q. map_swap (cleared_of false vpn) (clear_twice vpn) (h * s.ways) s.ways (set_of s vpn m * s.ways) s.ways es ∙ ap (flushed (set_of s vpn m)) (f h q))))
    where
      go : (b : Bool) → among (set_of s vpn m) seen ≡ b →
          clear_once s seen ms vpn es ≡ clear_sets s ms vpn es →
          clear_once s (set_of s vpn m ∷ seen) ms vpn (flushed (set_of s vpn m) es) ≡ clear_sets s ms vpn (flushed (set_of s vpn m) es) →
          cond b (clear_once s seen ms vpn es) (clear_once s (set_of s vpn m ∷ seen) ms vpn (flushed (set_of s vpn m) es)) ≡
          clear_sets s ms vpn (flushed (set_of s vpn m) es)
      go true q old new = old ∙ ap (clear_sets s ms vpn) (sym (f (set_of s vpn m) q))
      go false q old new = new

  pub clear_once_lem : (ms : List ℕ) (es : List TlbEntry) → clear_once s [] ms vpn es ≡ clear_sets s ms vpn es
  clear_once_lem ms es = clear_from ms [] es (none_seen (λ (h : ℕ). flushed h es ≡ es))
