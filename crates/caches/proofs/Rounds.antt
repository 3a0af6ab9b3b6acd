-- The clock's search ends within a round: the slots it passed are clear, so after a whole round the next one is.
use Prim.Native.Nat.{ℕ, zero, suc, ◌+◌, ◌-◌, ◌%◌, ◌≤◌, ◌<◌}
use mathlib.Core.Path.{◌≡◌, refl, sym, ap, ◌∙◌}
use mathlib.Core.Bool.{Bool, true, false}
use mathlib.Core.List.{List}
use mathlib.Core.Logic.{⊎_elim}
use native.Mathlib.Nat.{mod-lt, mod-eq_of_lt, add-mod_right, mod-add-mod, eq-or-lt_of_le, not-suc-le-zero, le_of_suc-le-suc}
use native.Mathlib.Omega.{arith}
use lib.ListN.{length, set, length-set}
use lib.Dec.{ltb}
use lib.Seq.{get_or-set_same, get_or-set_other}
use borrow.Author.Tests.{ltb-true, ltb-false}
use Rattle.entry.specs.Entry.{blank, unreferenced_of}
use Rattle.entry.specs.declared.TlbEntry.{TlbEntry}
use Rattle.slots.specs.Slots.{entry_at, clock_from}
use Rattle.caches.specs.Terms.{FirstClear}
use Rattle.caches.proofs.Kept.{at_set}

abbrev bit_at : List TlbEntry → ℕ → Bool
bit_at es i = (entry_at es i).ref_bit

-- the slots with slot i's bit cleared
abbrev swept : List TlbEntry → ℕ → List TlbEntry
swept es i = set es i (unreferenced_of (entry_at es i))

-- clearing a bit sets none
still_clear : (es : List TlbEntry) (i j : ℕ) → bit_at es j ≡ false → bit_at (swept es i) j ≡ false
still_clear es i j h = ⊎_elim (λ w. ap (λ (e : TlbEntry). e.ref_bit) w.1) (λ w. ap (λ (e : TlbEntry). e.ref_bit) w ∙ h) (at_set es i _ j)

now_clear : (es : List TlbEntry) (i : ℕ) → i < length es → bit_at (swept es i) i ≡ false
now_clear es i h = ap (λ (e : TlbEntry). e.ref_bit) (get_or-set_same es i _ blank h)

-- a clear slot under the hand is taken at once
stay : (n start ways hand : ℕ) (es : List TlbEntry) → bit_at es (start + hand) ≡ false → clock_from n start ways hand es ≡ record { at = hand; entries = es }
unfolding clock_from
stay zero start ways hand es h = refl
stay (suc n) start ways hand es h = rw h

module _ (start ways from : ℕ) (some : from < ways) where
  -- the place m slots past where the search began
  abbrev place : ℕ → ℕ
  place m = (from + m) % ways

  round : place 0 ≡ place ways
  round = let e : from + 0 ≡ from = omega arith in rw (e, add-mod_right)

  next : (m : ℕ) → (place m + 1) % ways ≡ place (m + 1)
  next m = let e : from + (m + 1) ≡ from + m + 1 = omega arith in rw (e, mod-add-mod)

  -- the first m slots from there are clear
  abbrev Passed : ℕ → List TlbEntry → Type 0
  Passed m es = (d : ℕ) → d < m → bit_at es (start + place d) ≡ false

  -- how a search of k steps ends that has passed m slots: at a clear one, and more steps change nothing
  record Ends (k m : ℕ) (es : List TlbEntry) : Type 0 where
    pub clear : bit_at (clock_from k start ways (place m) es).entries (start + (clock_from k start ways (place m) es).at) ≡ false
    pub more : (l : ℕ) → k ≤ l → clock_from l start ways (place m) es ≡ clock_from k start ways (place m) es

  step : (k m : ℕ) (es : List TlbEntry) → bit_at es (start + place m) ≡ true →
      clock_from (suc k) start ways (place m) es ≡ clock_from k start ways (place (m + 1)) (swept es (start + place m))
  unfolding clock_from
  step k m es h = rw (h, next m)

  ends_here : (k m : ℕ) (es : List TlbEntry) → bit_at es (start + place m) ≡ false → Ends k m es
  ends_here k m es h = record {
    clear = rw (stay k start ways (place m) es h) h;
    more = λ l q. stay l start ways (place m) es h ∙ sym (stay k start ways (place m) es h);
  }

  more_steps : (k m : ℕ) (es : List TlbEntry) → bit_at es (start + place m) ≡ true → Ends k (m + 1) (swept es (start + place m)) →
      (l : ℕ) → suc k ≤ l → clock_from l start ways (place m) es ≡ clock_from (suc k) start ways (place m) es
  more_steps k m es h f zero q = absurd (not-suc-le-zero q)
  more_steps k m es h f (suc l) q = step l m es h ∙ f.more l (le_of_suc-le-suc q) ∙ sym (step k m es h)

  pass : (m : ℕ) (es : List TlbEntry) → start + ways ≤ length es → Passed m es → Passed (m + 1) (swept es (start + place m))
  pass m es long f d h =
      ⊎_elim
      (λ w. rw w (now_clear es (start + place m) (omega (arith, mod-lt (from + m) {m = ways} (omega arith)))))
      (λ l. still_clear es (start + place m) (start + place d) (f d l))
      (eq-or-lt_of_le {n = d} {m = m} (omega arith))

  ends : (k m : ℕ) (es : List TlbEntry) → m + k ≡ ways → start + ways ≤ length es → Passed m es → Ends k m es
  ends zero m es q long f =
      let e : m ≡ ways = omega arith in
      ends_here 0 m es (rw (e, ← round) (f 0 (omega arith)))
  ends (suc k) m es q long f =
      go (bit_at es (start + place m)) refl
      (ends k (m + 1) (swept es (start + place m)) (omega arith) (rw (length-set es (start + place m) (unreferenced_of (entry_at es (start + place m)))) long) (pass m es long f))
    where
      go : (b : Bool) → bit_at es (start + place m) ≡ b → Ends k (m + 1) (swept es (start + place m)) → Ends (suc k) m es
      go true h r = record { clear = rw (step k m es h) r.clear; more = more_steps k m es h r }
      go false h r = ends_here (suc k) m es h

  -- the places of a round are apart
  place_low : (m : ℕ) → from + m < ways → place m ≡ from + m
  place_low m h = mod-eq_of_lt h

  place_high : (m : ℕ) → ways ≤ from + m → m < ways → place m + ways ≡ from + m
  place_high m h l =
      let back : from + m ≡ from + m - ways + ways = omega arith in
      let e : place m ≡ from + m - ways = ap (λ (x : ℕ). x % ways) back ∙ add-mod_right (from + m - ways) ways ∙ mod-eq_of_lt (omega arith) in
      omega arith

  apart : (m d : ℕ) → m < d → d < ways → place m ≡ place d → ⊥
  apart m d h l e = go (ltb (from + m) ways) refl (ltb (from + d) ways) refl
    where
      go : (a : Bool) → ltb (from + m) ways ≡ a → (b : Bool) → ltb (from + d) ways ≡ b → ⊥
      go true p true q = omega (arith, place_low m (ltb-true _ _ p), place_low d (ltb-true _ _ q))
      go true p false q = omega (arith, place_low m (ltb-true _ _ p), place_high d (ltb-false _ _ q) l)
      go false p true q = omega (arith, ltb-false (from + m) ways p, ltb-true (from + d) ways q)
      go false p false q = omega (arith, place_high m (ltb-false _ _ p) (omega arith), place_high d (ltb-false _ _ q) l)

  -- what a search of k steps takes that has passed m slots, whose bits were set, over the slots us, which are es but for the bits passed
  takes : (es : List TlbEntry) (k m : ℕ) (us : List TlbEntry) → m + k ≡ ways
      → ((d : ℕ) → m ≤ d → d < ways → bit_at us (start + place d) ≡ bit_at es (start + place d))
      → ((d : ℕ) → d < m → bit_at es (start + place d) ≡ true)
      → FirstClear es start ways from (clock_from k start ways (place m) us).at
  unfolding clock_from
  takes es zero m us q same set_before = record {
    passed = m;
    most = omega arith;
    next = refl;
    were_set = set_before;
    is_clear = λ h. absurd (omega arith);
  }
  takes es (suc k) m us q same set_before =
      go (bit_at us (start + place m)) refl
      (λ h. takes es k (m + 1) (swept us (start + place m)) (omega arith) (still h) (before h))
    where
      here_same : bit_at us (start + place m) ≡ bit_at es (start + place m)
      here_same = same m (omega arith) (omega arith)

      still : bit_at us (start + place m) ≡ true → (d : ℕ) → m + 1 ≤ d → d < ways → bit_at (swept us (start + place m)) (start + place d) ≡ bit_at es (start + place d)
      still h d low high =
          ap (λ (e : TlbEntry). e.ref_bit) (get_or-set_other us (start + place m) (start + place d) _ blank (λ e. apart m d (omega arith) high (omega (arith, e))))
          ∙ same d (omega arith) high

      before : bit_at us (start + place m) ≡ true → (d : ℕ) → d < m + 1 → bit_at es (start + place d) ≡ true
      before h d l =
          ⊎_elim
          (λ w. rw w (sym here_same ∙ h))
          (λ s. set_before d s)
          (eq-or-lt_of_le {n = d} {m = m} (omega arith))

      go : (b : Bool) → bit_at us (start + place m) ≡ b
          → (bit_at us (start + place m) ≡ true → FirstClear es start ways from (clock_from k start ways (place (m + 1)) (swept us (start + place m))).at)
          → FirstClear es start ways from (clock_from (suc k) start ways (place m) us).at
      go true h r = rw (step k m us h) (r h)
      go false h r = rw (stay (suc k) start ways (place m) us h) (record {
        passed = m;
        most = omega arith;
        next = refl;
        were_set = set_before;
        is_clear = λ l. sym here_same ∙ h;
      })

  -- from the start, where none is passed
  module _ (es : List TlbEntry) (long : start + ways ≤ length es) where
    here : place 0 ≡ from
    here = let e : from + 0 ≡ from = omega arith in rw (e, mod-eq_of_lt some)

    whole : Ends ways 0 es
    whole = ends ways 0 es (omega arith) long (λ d h. absurd (not-suc-le-zero h))

    pub clock_takes : FirstClear es start ways from (clock_from ways start ways from es).at
    clock_takes = rw here at (takes es ways 0 es (omega arith) (λ d l h. refl) (λ d h. absurd (not-suc-le-zero h)))

    pub clock_clear : bit_at (clock_from ways start ways from es).entries (start + (clock_from ways start ways from es).at) ≡ false
    clock_clear = rw here at whole.clear

    pub clock_more : (n : ℕ) → ways ≤ n → clock_from n start ways from es ≡ clock_from ways start ways from es
    clock_more n h = rw here at (whole.more n h)
