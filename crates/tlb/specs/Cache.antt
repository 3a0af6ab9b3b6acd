-- What each operation of the TLB does, over a list of slots and a few counts: nothing here depends on how the state is laid out.
use Rattle.std.specs.Prelude.{ℕ, ◌+◌, ◌*◌, ◌/◌, ◌%◌, ◌^◌, false, true, cond, List, [], ◌∷◌, set, get_or, None, Option, Some}
use Rattle.entry.specs.Entry.{touched_of, fresh_of, cleared_of, is_clock}
use Rattle.entry.specs.declared.TlbEntry.{TlbEntry}
use Rattle.entry.specs.declared.ReplacementPolicy.{ReplacementPolicy}
use Rattle.slots.specs.Slots.{entry_at, wanted_of, first_in, quiet_in, clock_from, map_in}
use Rattle.slots.specs.declared.Swept.{Swept}

-- what operations change
pub record Cache : Type 0 where
  pub slots : List TlbEntry
  pub hands : List ℕ
  pub counter : ℕ
  pub evictions : ℕ

-- what they only read: `classes` are the page classes to probe, in order
pub record Shape : Type 0 where
  pub sets : ℕ
  pub ways : ℕ
  pub policy : ReplacementPolicy
  pub classes : List ℕ

abbrev pub with_slots : Cache → List TlbEntry → ℕ → Cache
with_slots c es n = record { slots = es; hands = c.hands; counter = n; evictions = c.evictions }

-- "adds 1 to the age counter (wrapping, 32 bits)"
abbrev pub next_age : Cache → ℕ
next_age c = (c.counter + 1) % 2 ^ 32

-- "It adds 1 to the counter and stores it as age": an entry laid in slot i
unfoldable pub store_at : ReplacementPolicy → ℕ → TlbEntry → Cache → Cache
store_at p i e c = with_slots c (set c.slots i (fresh_of p (next_age c) e)) (next_age c)

-- "one eviction is counted", "Tallies wrap at 2^64"
unfoldable pub evicted : Cache → Cache
evicted c = record { slots = c.slots; hands = c.hands; counter = c.counter; evictions = (c.evictions + 1) % 2 ^ 64 }

-- a victim's slot, and the cache as the search for it leaves it
pub record Chosen : Type 0 where
  pub at : ℕ
  pub cache : Cache

-- "hand one past it"
abbrev pub handed : ℕ → ℕ → ℕ → Cache → Swept → Chosen
handed group start ways c v = record {
  at = start + v.at;
  cache = record {
    slots = v.entries;
    hands = set c.hands group ((v.at + 1) % ways);
    counter = c.counter;
    evictions = c.evictions;
  };
}

-- "Clock from the set's hand mod ways"
unfoldable pub clock_in : ℕ → ℕ → ℕ → Cache → Chosen
clock_in group start ways c =
    handed group start ways c (clock_from ways start ways (get_or c.hands group 0 % ways) c.slots)

-- the victim of a full set, number `group`, whose slots start at `start`
unfoldable pub victim_in : ReplacementPolicy → ℕ → ℕ → ℕ → Cache → Chosen
victim_in p group start ways c =
    cond (is_clock p) (clock_in group start ways c)
    (record { at = quiet_in p c.counter start ways c.slots; cache = c })

abbrev pub on_slot : {A : Type 0} → Option ℕ → (ℕ → A) → A → A
on_slot (Some i) f z = f i
on_slot None f z = z

-- "else a victim, and then one eviction is counted"
unfoldable pub replace_in : ReplacementPolicy → ℕ → ℕ → ℕ → TlbEntry → Cache → Cache
replace_in p group start ways e c =
    store_at p (victim_in p group start ways c).at e (evicted (victim_in p group start ways c).cache)

-- "else the first invalid slot"
unfoldable pub install_new : ReplacementPolicy → ℕ → ℕ → ℕ → TlbEntry → Cache → Cache
install_new p group start ways e c =
    on_slot (first_in (wanted_of true 0 0) c.slots start (start + ways)) (λ i. store_at p i e c)
    (replace_in p group start ways e c)

-- "A class-m entry lives in set (vpn >> m) mod sets."
abbrev pub set_of : Shape → ℕ → ℕ → ℕ
set_of s vpn class = (vpn / 2 ^ class) % s.sets

abbrev pub start_of : Shape → ℕ → ℕ → ℕ
start_of s vpn class = set_of s vpn class * s.ways

-- the first slot that answers, in the set of one class
abbrev pub slot_of : Shape → ℕ → ℕ → List TlbEntry → ℕ → Option ℕ
slot_of s vpn asid es class =
    first_in (wanted_of false vpn asid) es (start_of s vpn class) (start_of s vpn class + s.ways)

-- "An install reuses the first matching slot in its set, else the first invalid slot, else a victim"
unfoldable pub install_in : Shape → TlbEntry → Cache → Cache
install_in s e c =
    on_slot (slot_of s e.vpn e.asid c.slots e.mask_bits) (λ i. store_at s.policy i e c)
    (install_new s.policy (set_of s e.vpn e.mask_bits) (start_of s e.vpn e.mask_bits) s.ways e c)

-- "the answer of a probe is either the entry found or nothing", and the cache after it
pub record Seen : Type 0 where
  pub lookup : Option TlbEntry
  pub cache : Cache

-- "Each found probe adds 1 to the age counter", and the policy's mark is left
unfoldable pub touch_at : ReplacementPolicy → ℕ → Cache → Seen
touch_at p i c = record {
  lookup = Some (touched_of p (next_age c) (entry_at c.slots i));
  cache = with_slots c (set c.slots i (touched_of p (next_age c) (entry_at c.slots i))) (next_age c);
}

abbrev pub or_slot : Option ℕ → Option ℕ → Option ℕ
or_slot (Some i) s = Some i
or_slot None s = s

-- "A probe visits each class's set once, in class order". A second look into a set that missed finds nothing, so no list of sets is kept
unfoldable pub find_from : Shape → List ℕ → ℕ → ℕ → List TlbEntry → Option ℕ
find_from s [] vpn asid es = None
find_from s (m ∷ ms) vpn asid es = or_slot (slot_of s vpn asid es m) (find_from s ms vpn asid es)

unfoldable pub probe_in : Shape → ℕ → ℕ → Cache → Seen
probe_in s vpn asid c =
    on_slot (find_from s s.classes vpn asid c.slots) (λ i. touch_at s.policy i c) (record { lookup = None; cache = c })

-- "`flush` only clears valid marks": of every entry, which are the slots of all sets
unfoldable pub flush_in : Shape → Cache → Cache
flush_in s c = with_slots c (map_in (cleared_of true 0) 0 (s.sets * s.ways) c.slots) c.counter

-- the sets of the classes in turn, flushed of a page
unfoldable pub clear_sets : Shape → List ℕ → ℕ → List TlbEntry → List TlbEntry
clear_sets s [] vpn es = es
clear_sets s (m ∷ ms) vpn es = clear_sets s ms vpn (map_in (cleared_of false vpn) (start_of s vpn m) s.ways es)

-- "clears all matching entries in the probed sets, for every ASID"
unfoldable pub flush_page_in : Shape → ℕ → Cache → Cache
flush_page_in s vpn c = with_slots c (clear_sets s s.classes vpn c.slots) c.counter
