-- One cached entry: which page it answers for, and what a probe, an install and a flush leave in it.
use Rattle.std.specs.Prelude.{ℕ, ◌/◌, ◌^◌, Bool, true, false, cond, ◌&&◌, ◌||◌, eqb, leb, ltb}
use Rattle.entry.specs.declared.TlbEntry.{TlbEntry}
use Rattle.entry.specs.declared.ReplacementPolicy.{ReplacementPolicy}
use Rattle.entry.specs.declared.ReplacementPolicy.TheVariants.{Lru, Mru, Fifo, Lfu, Clock, Random}

-- "policy (0 Lru, 1 Mru, 2 Fifo, 3 Lfu, 4 Clock, 5 Random)"
abbrev pub policy_number : ReplacementPolicy → ℕ
policy_number Lru = 0
policy_number Mru = 1
policy_number Fifo = 2
policy_number Lfu = 3
policy_number Clock = 4
policy_number Random = 5

-- an empty slot, and what the logic reads past the end of a list
abbrev pub blank : TlbEntry
blank = record {
  vpn = 0;
  ppn = 0;
  age = 0;
  asid = 0;
  perms = record { r = false; w = false; x = false; u = false };
  valid = false;
  global = false;
  accessed = false;
  dirty = false;
  mask_bits = 0;
  ref_bit = false;
}

-- "A valid entry matches by its own class, and by ASID unless global."
unfoldable pub matches_of : TlbEntry → ℕ → ℕ → Bool
matches_of e vpn asid =
    (e.valid && (e.global || eqb e.asid asid)) &&
    eqb (e.vpn / 2 ^ e.mask_bits) (vpn / 2 ^ e.mask_bits)

-- an entry with its valid mark, its age and its reference bit given
abbrev pub marked : TlbEntry → Bool → ℕ → Bool → TlbEntry
marked e v a b = record {
  vpn = e.vpn;
  ppn = e.ppn;
  age = a;
  asid = e.asid;
  perms = e.perms;
  valid = v;
  global = e.global;
  accessed = e.accessed;
  dirty = e.dirty;
  mask_bits = e.mask_bits;
  ref_bit = b;
}

-- "Lru, Mru and Lfu store it as age, Clock sets the reference bit."
abbrev pub touched_of : ReplacementPolicy → ℕ → TlbEntry → TlbEntry
touched_of Lru n e = marked e e.valid n e.ref_bit
touched_of Mru n e = marked e e.valid n e.ref_bit
touched_of Fifo n e = e
touched_of Lfu n e = marked e e.valid n e.ref_bit
touched_of Clock n e = marked e e.valid e.age true
touched_of Random n e = e

abbrev pub is_clock : ReplacementPolicy → Bool
is_clock Lru = false
is_clock Mru = false
is_clock Fifo = false
is_clock Lfu = false
is_clock Clock = true
is_clock Random = false

-- "It adds 1 to the counter and stores it as age; Clock sets the bit."
abbrev pub fresh_of : ReplacementPolicy → ℕ → TlbEntry → TlbEntry
fresh_of p n e = marked e true n (is_clock p || e.ref_bit)

-- "clearing bits": an entry that the clock's hand passed
abbrev pub unreferenced_of : TlbEntry → TlbEntry
unreferenced_of e = marked e e.valid e.age false

-- "`flush` only clears valid marks."
abbrev pub invalid_of : TlbEntry → TlbEntry
invalid_of e = marked e false e.age e.ref_bit

-- an entry after a flush of everything, or of one page "for every ASID"
abbrev pub cleared_of : Bool → ℕ → TlbEntry → TlbEntry
cleared_of all vpn e = cond (all || matches_of e vpn e.asid) (invalid_of e) e

-- whether an age beats the best so far: for the newest one also where they are equal, so that the last of the greatest is taken
abbrev pub better_of : Bool → ℕ → ℕ → Bool
better_of newest age best = cond newest (leb best age) (ltb age best)
