-- A list of slots: the first that passes a test, the best by age, the clock's round, a change of some in a row, and whether all classes fit.
use Rattle.std.specs.Prelude.{◌≡◌, ℕ, zero, suc, ◌+◌, ◌%◌, Bool, true, false, cond, not, ◌&&◌, List, [], ◌∷◌, leb, get_or, set, take, Option, Some, None}
use Rattle.std.specs.Fn.{Shared}
use Rattle.std.specs.Borrow.{Bor}
use Rattle.std.proofs.Math.Seq.{slice}
use Rattle.entry.specs.Entry.{blank, matches_of, unreferenced_of, invalid_of, better_of}
use Rattle.entry.specs.declared.TlbEntry.{TlbEntry}
use Rattle.entry.specs.declared.ReplacementPolicy.{ReplacementPolicy}
use Rattle.entry.specs.declared.ReplacementPolicy.TheVariants.{Lru, Mru, Fifo, Lfu, Clock, Random}
use Rattle.slots.specs.declared.Swept.{Swept}

-- a test gives p of each entry
abbrev pub Tells : {F : Type 0} → Shared F (Bor TlbEntry × Unit {0}) Bool → F → (TlbEntry → Bool) → Type 0
Tells g f p = (a : Bor TlbEntry) (b : Bool) → g.post f (a, tt) b → b ≡ p a.now

-- a test of two ages says which is better: the smaller, or for the newest the greater
abbrev pub Ranks : {F : Type 0} → Shared F (ℕ × (ℕ × Unit {0})) Bool → F → Bool → Type 0
Ranks g f newest = (age best : ℕ) (b : Bool) → g.post f (age, (best, tt)) b → b ≡ better_of newest age best

abbrev pub entry_at : List TlbEntry → ℕ → TlbEntry
entry_at es i = get_or es i blank

-- that a slot is free, or that it answers for the page
abbrev pub wanted_of : Bool → ℕ → ℕ → TlbEntry → Bool
wanted_of free vpn asid e = cond free (not e.valid) (matches_of e vpn asid)

-- the first element that passes, counted from n
abbrev pub scan : (TlbEntry → Bool) → List TlbEntry → ℕ → Option ℕ
scan p [] n = None
scan p (x ∷ xs) n = cond (p x) (Some n) (scan p xs (suc n))

-- from a start up to an end
unfoldable pub first_in : (TlbEntry → Bool) → List TlbEntry → ℕ → ℕ → Option ℕ
first_in p es start end = scan p (slice start end es) start

-- the best of the slots passed, and then of the rest, counted from n
abbrev pub best : Bool → List TlbEntry → ℕ → ℕ → ℕ → ℕ
best newest [] n slot age = slot
best newest (x ∷ xs) n slot age =
    best newest xs (suc n) (cond (better_of newest x.age age) n slot)
    (cond (better_of newest x.age age) x.age age)

-- from the slot at i on, with the best before it
unfoldable pub best_from : Bool → List TlbEntry → ℕ → ℕ → ℕ → ℕ → ℕ
best_from newest es i end slot age = best newest (slice i end es) i slot age

-- "the first smallest age", or "the last greatest"
abbrev pub best_in : Bool → List TlbEntry → ℕ → ℕ → ℕ
best_in newest es start end = best_from newest es (start + 1) end start (entry_at es start).age

-- "Victims: Lru, Fifo, Lfu the first smallest age; Mru the last greatest; Random the counter before its increment, mod ways". Clock's is below
abbrev pub quiet_in : ReplacementPolicy → ℕ → ℕ → ℕ → List TlbEntry → ℕ
quiet_in Lru counter start ways es = best_in false es start (start + ways)
quiet_in Mru counter start ways es = best_in true es start (start + ways)
quiet_in Fifo counter start ways es = best_in false es start (start + ways)
quiet_in Lfu counter start ways es = best_in false es start (start + ways)
quiet_in Clock counter start ways es = start
quiet_in Random counter start ways es = start + counter % ways

-- "from the set's hand .., clearing bits, taking the first clear one", in at most k steps: a slot whose bit is set has it cleared and is
-- passed. After a whole round every bit is clear, so the one that the hand came back to is taken
unfoldable pub clock_from : ℕ → ℕ → ℕ → ℕ → List TlbEntry → Swept
clock_from zero start ways hand es = record { at = hand; entries = es }
clock_from (suc k) start ways hand es =
    cond (entry_at es (start + hand)).ref_bit
    (clock_from k start ways ((hand + 1) % ways) (set es (start + hand) (unreferenced_of (entry_at es (start + hand)))))
    (record { at = hand; entries = es })

-- an entry without its valid mark, where it passes a test
abbrev pub cleared_where : (TlbEntry → Bool) → TlbEntry → TlbEntry
cleared_where p e = cond (p e) (invalid_of e) e

-- f at the n slots from a on
unfoldable pub map_in : (TlbEntry → TlbEntry) → ℕ → ℕ → List TlbEntry → List TlbEntry
map_in f a n [] = []
map_in f zero zero (x ∷ xs) = x ∷ xs
map_in f zero (suc n) (x ∷ xs) = f x ∷ map_in f zero n xs
map_in f (suc a) n (x ∷ xs) = x ∷ map_in f a n xs

abbrev pub all_fit : List TlbEntry → Bool
all_fit [] = true
all_fit (x ∷ xs) = leb x.mask_bits 19 && all_fit xs

-- "no entry's class is above 19": among the first n
unfoldable pub classes_fit : ℕ → List TlbEntry → Bool
classes_fit n es = all_fit (take n es)
