-- The words that the claims about the TLB use.
use Rattle.std.specs.Prelude.{ℕ, ◌+◌, ◌%◌, ◌≤◌, ◌<◌, ◌≡◌, Bool, true, false, cond, ◌||◌, List, [], ◌∷◌, eqb, length, Option, None}
use Rattle.pte.specs.declared.PtePerms.{PtePerms}
use Rattle.entry.specs.Entry.{matches_of, cleared_of}
use Rattle.entry.specs.declared.TlbEntry.{TlbEntry}
use Rattle.slots.specs.Slots.{entry_at, map_in}
use Rattle.tlb.specs.Cache.{Shape, set_of, start_of, slot_of, or_slot}
use Rattle.tlb.specs.declared.Tlb.{Tlb}

-- what an entry says: all but whether it is valid, its age and its marks
pub record Said : Type 0 where
  pub vpn : ℕ
  pub ppn : ℕ
  pub asid : ℕ
  pub perms : PtePerms
  pub global : Bool
  pub dirty : Bool
  pub mask_bits : ℕ

abbrev pub said_by : TlbEntry → Said
said_by e = record {
  vpn = e.vpn;
  ppn = e.ppn;
  asid = e.asid;
  perms = e.perms;
  global = e.global;
  dirty = e.dirty;
  mask_bits = e.mask_bits;
}

-- every valid entry of the cache says what P asks
abbrev pub Holds : (Said → Type 0) → Tlb → Type 0
Holds P t = (i : ℕ) → i < t.count → (entry_at t.entries i).valid ≡ true → P (said_by (entry_at t.entries i))

-- u has t's configuration, geometry and room
pub record SameFrame (t u : Tlb) : Type 0 where
  pub config : u.config ≡ t.config
  pub count : u.count ≡ t.count
  pub sets : u.sets ≡ t.sets
  pub slots : length u.entries ≡ length t.entries
  pub hands : length u.clock_hands ≡ length t.clock_hands

-- and its scheme and tallies of accesses
pub record SameScheme (t u : Tlb) : Type 0 where
  pub frame : SameFrame t u
  pub offset : u.offset_bits ≡ t.offset_bits
  pub masks : u.superpage_masks ≡ t.superpage_masks
  pub classes : u.mask_count ≡ t.mask_count
  pub hits : u.stats.hits ≡ t.stats.hits
  pub misses : u.stats.misses ≡ t.stats.misses
  pub faults : u.stats.page_faults ≡ t.stats.page_faults

-- the slots from t's count on are u's
abbrev pub SamePast : Tlb → Tlb → Type 0
SamePast t u = (i : ℕ) → t.count ≤ i → entry_at u.entries i ≡ entry_at t.entries i

-- e is a valid entry of the cache that answers for the page, but for its age and its mark
pub record EntryOf (t : Tlb) (vpn asid : ℕ) (e : TlbEntry) : Type 0 where
  pub at : ℕ
  pub below : at < t.count
  pub valid : (entry_at t.entries at).valid ≡ true
  pub answers : matches_of (entry_at t.entries at) vpn asid ≡ true
  pub said : said_by e ≡ said_by (entry_at t.entries at)
  pub live : e.valid ≡ true
  pub same : matches_of e vpn asid ≡ true

abbrev pub age_at : List TlbEntry → ℕ → ℕ
age_at es i = (entry_at es i).age

-- "the first smallest age" among the slots from start up to end
pub record FirstSmallest (es : List TlbEntry) (start end at : ℕ) : Type 0 where
  pub low : start ≤ at
  pub high : at < end
  pub smallest : (j : ℕ) → start ≤ j → j < end → age_at es at ≤ age_at es j
  pub first : (j : ℕ) → start ≤ j → j < at → age_at es at < age_at es j

-- "the last greatest"
pub record LastGreatest (es : List TlbEntry) (start end at : ℕ) : Type 0 where
  pub low : start ≤ at
  pub high : at < end
  pub greatest : (j : ℕ) → start ≤ j → j < end → age_at es j ≤ age_at es at
  pub last : (j : ℕ) → at < j → j < end → age_at es j < age_at es at

-- "from the set's hand .., taking the first clear one": so many slots are passed, whose bits are set, and the next one is taken; its bit is
-- clear, or the whole round is passed and it is the one under the hand
pub record FirstClear (es : List TlbEntry) (start ways hand at : ℕ) : Type 0 where
  pub passed : ℕ
  pub most : passed ≤ ways
  pub next : at ≡ (hand + passed) % ways
  pub were_set : (d : ℕ) → d < passed → (entry_at es (start + (hand + d) % ways)).ref_bit ≡ true
  pub is_clear : passed < ways → (entry_at es (start + at)).ref_bit ≡ false

unfoldable pub among : ℕ → List ℕ → Bool
among n [] = false
among n (m ∷ ms) = eqb n m || among n ms

-- a probe that keeps a list of the sets it has seen, and skips them
unfoldable pub find_once : Shape → List ℕ → List ℕ → ℕ → ℕ → List TlbEntry → Option ℕ
find_once s seen [] vpn asid es = None
find_once s seen (m ∷ ms) vpn asid es =
    cond (among (set_of s vpn m) seen) (find_once s seen ms vpn asid es)
    (or_slot (slot_of s vpn asid es m) (find_once s (set_of s vpn m ∷ seen) ms vpn asid es))

-- a flush of a page that does the same
unfoldable pub clear_once : Shape → List ℕ → List ℕ → ℕ → List TlbEntry → List TlbEntry
clear_once s seen [] vpn es = es
clear_once s seen (m ∷ ms) vpn es =
    cond (among (set_of s vpn m) seen) (clear_once s seen ms vpn es)
    (clear_once s (set_of s vpn m ∷ seen) ms vpn (map_in (cleared_of false vpn) (start_of s vpn m) s.ways es))
