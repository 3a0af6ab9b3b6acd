-- The TLB's state as the code has it: where its cache and its shape stand, what each call leaves, and which states are fit.
use Rattle.std.specs.Prelude.{ℕ, ◌*◌, ◌/◌, ◌^◌, ◌≤◌, ◌<◌, ◌≡◌, Bool, ◌&&◌, List, eqb, leb, take, replicate}
use Rattle.scheme.specs.Scheme.{sv32_scheme, widths_of, classes, padded}
use Rattle.entry.specs.Entry.{blank}
use Rattle.entry.specs.Geometry.{ways_for, entries_for, sets_for}
use Rattle.entry.specs.declared.TlbEntry.{TlbEntry}
use Rattle.entry.specs.declared.TlbConfig.{TlbConfig}
use Rattle.slots.specs.Slots.{entry_at, classes_fit}
use Rattle.tlb.specs.Cache.{Cache, Shape, Seen, install_in, probe_in, flush_in, flush_page_in}
use Rattle.tlb.specs.declared.Tlb.{Tlb}
use Rattle.tlb.specs.declared.Probed.{Probed}

abbrev pub ways_of : Tlb → ℕ
ways_of t = ways_for t.config.associativity

abbrev pub cache_of : Tlb → Cache
cache_of t = record {
  slots = t.entries;
  hands = t.clock_hands;
  counter = t.age_counter;
  evictions = t.stats.evictions;
}

abbrev pub shape_of : Tlb → Shape
shape_of t = record {
  sets = t.sets;
  ways = ways_of t;
  policy = t.config.replacement;
  classes = take t.mask_count t.superpage_masks;
}

-- a state with its cache given
abbrev pub with_cache : Tlb → Cache → Tlb
with_cache t c = record {
  entries = c.slots;
  clock_hands = c.hands;
  count = t.count;
  sets = t.sets;
  age_counter = c.counter;
  config = t.config;
  stats = record {
    hits = t.stats.hits;
    misses = t.stats.misses;
    evictions = c.evictions;
    page_faults = t.stats.page_faults;
  };
  offset_bits = t.offset_bits;
  superpage_masks = t.superpage_masks;
  mask_count = t.mask_count;
}

unfoldable pub tlb_install : Tlb → TlbEntry → Tlb
tlb_install t e = with_cache t (install_in (shape_of t) e (cache_of t))

abbrev pub probed_with : Tlb → Seen → Probed
probed_with t v = record { lookup = v.lookup; tlb = with_cache t v.cache }

unfoldable pub tlb_probe : Tlb → ℕ → ℕ → Probed
tlb_probe t vpn asid = probed_with t (probe_in (shape_of t) vpn asid (cache_of t))

unfoldable pub tlb_flush : Tlb → Tlb
tlb_flush t = with_cache t (flush_in (shape_of t) (cache_of t))

unfoldable pub tlb_flush_page : Tlb → ℕ → Tlb
tlb_flush_page t vpn = with_cache t (flush_page_in (shape_of t) vpn (cache_of t))

unfoldable pub tlb_flush_vaddr : Tlb → ℕ → Tlb
tlb_flush_vaddr t vaddr = tlb_flush_page t (vaddr / 2 ^ t.offset_bits)

-- nothing installed, nothing counted, and Sv32's offset and classes
unfoldable pub tlb_new : TlbConfig → Tlb
tlb_new config = record {
  entries = replicate 128 blank;
  clock_hands = replicate 128 0;
  count = entries_for config.entry_count config.associativity;
  sets = sets_for config.entry_count config.associativity;
  age_counter = 0;
  config = config;
  stats = record { hits = 0; misses = 0; evictions = 0; page_faults = 0 };
  offset_bits = sv32_scheme.offset_bits;
  superpage_masks = padded (classes (widths_of sv32_scheme));
  mask_count = sv32_scheme.levels;
}

-- "`set_scheme` keeps entries"
unfoldable pub tlb_set_scheme : Tlb → ℕ → List ℕ → ℕ → Tlb
tlb_set_scheme t offset masks n = record {
  entries = t.entries;
  clock_hands = t.clock_hands;
  count = t.count;
  sets = t.sets;
  age_counter = t.age_counter;
  config = t.config;
  stats = t.stats;
  offset_bits = offset;
  superpage_masks = masks;
  mask_count = n;
}

-- "`reconfigure` starts afresh, the scheme kept."
unfoldable pub tlb_reconfigure : Tlb → TlbConfig → Tlb
tlb_reconfigure t config =
    tlb_set_scheme (tlb_new config) t.offset_bits t.superpage_masks t.mask_count

-- "its geometry is what its config gives, at most 128 entries, .. and no entry's class is above 19"; slots from the count on are no entries
unfoldable pub tlb_fits : Tlb → Bool
tlb_fits t =
    ((leb t.count 128 && eqb t.count (entries_for t.config.entry_count t.config.associativity))
    && eqb t.sets (sets_for t.config.entry_count t.config.associativity))
    && classes_fit t.count t.entries

-- what the operations need: there is a set, and the sets' slots are the entries, which lie in the array
pub record Geo (t : Tlb) : Type 0 where
  pub some : 0 < t.sets
  pub full : t.sets * ways_of t ≡ t.count
  pub room : t.count ≤ 128

-- what a fit state has
pub record Fit (t : Tlb) : Type 0 where
  pub geo : Geo t
  pub made : t.count ≡ entries_for t.config.entry_count t.config.associativity
  pub split : t.sets ≡ sets_for t.config.entry_count t.config.associativity
  pub classes : (i : ℕ) → i < t.count → (entry_at t.entries i).mask_bits ≤ 19
