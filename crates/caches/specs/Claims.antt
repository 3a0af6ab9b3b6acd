-- What holds of the TLB's operations, each with the sentence of document 01 that it stands for. The proofs are in proofs/Claims.antt.
use Rattle.std.specs.Prelude.{ℕ, ◌+◌, ◌%◌, ◌≤◌, ◌<◌, ◌≡◌, true, false, List, [], length, get_or, set, Some}
use Rattle.entry.specs.Geometry.{entries_for}
use Rattle.entry.specs.declared.TlbEntry.{TlbEntry}
use Rattle.entry.specs.declared.TlbConfig.{TlbConfig}
use Rattle.entry.specs.declared.ReplacementPolicy.TheVariants.{Lru, Mru, Fifo, Lfu, Clock, Random}
use Rattle.slots.specs.Slots.{entry_at, clock_from}
use Rattle.tlb.specs.Cache.{Cache, Shape, victim_in, find_from, clear_sets}
use Rattle.tlb.specs.State.{Geo, tlb_fits, tlb_new, tlb_reconfigure, tlb_set_scheme, tlb_probe, tlb_install, tlb_flush, tlb_flush_page, tlb_flush_vaddr}
use Rattle.tlb.specs.declared.Tlb.{Tlb}
use Rattle.caches.specs.Terms.{Said, said_by, Holds, SameFrame, SameScheme, SamePast, EntryOf, FirstSmallest, LastGreatest, FirstClear, find_once, clear_once}

-- "A state is fit when .. its geometry is what its config gives, at most 128 entries, .. and no entry's class is above 19": calls keep it so
abbrev pub NewFits : Type 0
NewFits = (c : TlbConfig) → entries_for c.entry_count c.associativity ≤ 128 → tlb_fits (tlb_new c) ≡ true

abbrev pub ReconfigureFits : Type 0
ReconfigureFits = (t : Tlb) (c : TlbConfig) → entries_for c.entry_count c.associativity ≤ 128 → tlb_fits (tlb_reconfigure t c) ≡ true

abbrev pub SchemeFits : Type 0
SchemeFits = (t : Tlb) (offset : ℕ) (masks : List ℕ) (n : ℕ) → tlb_fits t ≡ true → tlb_fits (tlb_set_scheme t offset masks n) ≡ true

abbrev pub ProbeFits : Type 0
ProbeFits = (t : Tlb) (vpn asid : ℕ) → tlb_fits t ≡ true → tlb_fits (tlb_probe t vpn asid).tlb ≡ true

abbrev pub InstallFits : Type 0
InstallFits = (t : Tlb) (e : TlbEntry) → e.mask_bits ≤ 19 → tlb_fits t ≡ true → tlb_fits (tlb_install t e) ≡ true

abbrev pub FlushFits : Type 0
FlushFits = (t : Tlb) → tlb_fits t ≡ true → tlb_fits (tlb_flush t) ≡ true

abbrev pub FlushPageFits : Type 0
FlushPageFits = (t : Tlb) (vpn : ℕ) → tlb_fits t ≡ true → tlb_fits (tlb_flush_page t vpn) ≡ true

abbrev pub FlushVaddrFits : Type 0
FlushVaddrFits = (t : Tlb) (vaddr : ℕ) → tlb_fits t ≡ true → tlb_fits (tlb_flush_vaddr t vaddr) ≡ true

-- configuration, geometry, scheme and the tallies of accesses stay as they were, and so does the arrays' room
abbrev pub ProbeSame : Type 0
ProbeSame = (t : Tlb) (vpn asid : ℕ) → SameScheme t (tlb_probe t vpn asid).tlb

abbrev pub InstallSame : Type 0
InstallSame = (t : Tlb) (e : TlbEntry) → SameScheme t (tlb_install t e)

abbrev pub FlushSame : Type 0
FlushSame = (t : Tlb) → SameScheme t (tlb_flush t)

abbrev pub FlushPageSame : Type 0
FlushPageSame = (t : Tlb) (vpn : ℕ) → SameScheme t (tlb_flush_page t vpn)

abbrev pub FlushVaddrSame : Type 0
FlushVaddrSame = (t : Tlb) (vaddr : ℕ) → SameScheme t (tlb_flush_vaddr t vaddr)

-- `set_scheme` keeps the geometry
abbrev pub SchemeSame : Type 0
SchemeSame = (t : Tlb) (offset : ℕ) (masks : List ℕ) (n : ℕ) → SameFrame t (tlb_set_scheme t offset masks n)

-- so the geometry that the next call needs is there
abbrev pub FrameGeo : Type 0
FrameGeo = (t u : Tlb) → SameFrame t u → Geo t → Geo u

-- slots from the count to 127 are no entries: they are kept as handed
abbrev pub ProbePast : Type 0
ProbePast = (t : Tlb) (vpn asid : ℕ) → Geo t → SamePast t (tlb_probe t vpn asid).tlb

abbrev pub InstallPast : Type 0
InstallPast = (t : Tlb) (e : TlbEntry) → Geo t → length t.entries ≡ 128 → SamePast t (tlb_install t e)

abbrev pub FlushPast : Type 0
FlushPast = (t : Tlb) → Geo t → SamePast t (tlb_flush t)

abbrev pub FlushPagePast : Type 0
FlushPagePast = (t : Tlb) (vpn : ℕ) → Geo t → SamePast t (tlb_flush_page t vpn)

abbrev pub FlushVaddrPast : Type 0
FlushVaddrPast = (t : Tlb) (vaddr : ℕ) → Geo t → SamePast t (tlb_flush_vaddr t vaddr)

-- "the answer of a probe is either the entry found or nothing": what is found is an entry of the cache
abbrev pub ProbeFinds : Type 0
ProbeFinds = (t : Tlb) (vpn asid : ℕ) (e : TlbEntry) → Geo t → (tlb_probe t vpn asid).lookup ≡ Some e → EntryOf t vpn asid e

-- a step drops entries, touches ages and marks, or adds the one entry that is installed: what all entries say stays so
abbrev pub NewHolds : Type 1
NewHolds = (P : Said → Type 0) (c : TlbConfig) → Holds P (tlb_new c)

abbrev pub ReconfigureHolds : Type 1
ReconfigureHolds = (P : Said → Type 0) (t : Tlb) (c : TlbConfig) → Holds P (tlb_reconfigure t c)

abbrev pub SchemeHolds : Type 1
SchemeHolds = (P : Said → Type 0) (t : Tlb) (offset : ℕ) (masks : List ℕ) (n : ℕ) → Holds P t → Holds P (tlb_set_scheme t offset masks n)

abbrev pub ProbeHolds : Type 1
ProbeHolds = (P : Said → Type 0) (t : Tlb) (vpn asid : ℕ) → Holds P t → Holds P (tlb_probe t vpn asid).tlb

abbrev pub InstallHolds : Type 1
InstallHolds = (P : Said → Type 0) (t : Tlb) (e : TlbEntry) → P (said_by e) → Holds P t → Holds P (tlb_install t e)

abbrev pub FlushHolds : Type 1
FlushHolds = (P : Said → Type 0) (t : Tlb) → Holds P t → Holds P (tlb_flush t)

abbrev pub FlushPageHolds : Type 1
FlushPageHolds = (P : Said → Type 0) (t : Tlb) (vpn : ℕ) → Holds P t → Holds P (tlb_flush_page t vpn)

abbrev pub FlushVaddrHolds : Type 1
FlushVaddrHolds = (P : Said → Type 0) (t : Tlb) (vaddr : ℕ) → Holds P t → Holds P (tlb_flush_vaddr t vaddr)

-- and so does what is found
abbrev pub FoundHolds : Type 1
FoundHolds = (P : Said → Type 0) (t : Tlb) (vpn asid : ℕ) (e : TlbEntry) → Geo t → Holds P t → (tlb_probe t vpn asid).lookup ≡ Some e → P (said_by e)

-- "Victims: Lru, Fifo, Lfu the first smallest age; Mru the last greatest; Random the counter before its increment, mod ways"
module _ (group start ways : ℕ) (c : Cache) where
  abbrev pub LruVictim : Type 0
  LruVictim = FirstSmallest c.slots start (start + ways) (victim_in Lru group start ways c).at

  abbrev pub FifoVictim : Type 0
  FifoVictim = FirstSmallest c.slots start (start + ways) (victim_in Fifo group start ways c).at

  abbrev pub LfuVictim : Type 0
  LfuVictim = FirstSmallest c.slots start (start + ways) (victim_in Lfu group start ways c).at

  abbrev pub MruVictim : Type 0
  MruVictim = LastGreatest c.slots start (start + ways) (victim_in Mru group start ways c).at

  abbrev pub RandomVictim : Type 0
  RandomVictim = (victim_in Random group start ways c).at ≡ start + c.counter % ways

abbrev pub Victims : Type 0
Victims = (group start ways : ℕ) (c : Cache) → 0 < ways → start + ways ≤ length c.slots →
    LruVictim group start ways c × FifoVictim group start ways c × LfuVictim group start ways c ×
    MruVictim group start ways c × RandomVictim group start ways c

-- "Clock from the set's hand mod ways, clearing bits, taking the first clear one, hand one past it"
abbrev pub ClockVictim : Type 0
ClockVictim = (group start ways : ℕ) (c : Cache) → 0 < ways → start + ways ≤ length c.slots →
    (at : ℕ)
    × (FirstClear c.slots start ways (get_or c.hands group 0 % ways) at
    × ((victim_in Clock group start ways c).at ≡ start + at)
    × ((victim_in Clock group start ways c).cache.hands ≡ set c.hands group ((at + 1) % ways)))

-- the slot that is taken has its bit clear
abbrev pub ClockEnds : Type 0
ClockEnds = (start ways hand : ℕ) (es : List TlbEntry) → hand < ways → start + ways ≤ length es →
    (entry_at (clock_from ways start ways hand es).entries (start + (clock_from ways start ways hand es).at)).ref_bit ≡ false

-- and a second round, or any more steps, would change nothing
abbrev pub ClockRounds : Type 0
ClockRounds = (start ways hand : ℕ) (es : List TlbEntry) → hand < ways → start + ways ≤ length es →
    (n : ℕ) → ways ≤ n → clock_from n start ways hand es ≡ clock_from ways start ways hand es

-- "A probe visits each class's set once": skipping the sets already seen gives the same answer
abbrev pub FindOnce : Type 0
FindOnce = (s : Shape) (ms : List ℕ) (vpn asid : ℕ) (es : List TlbEntry) → find_once s [] ms vpn asid es ≡ find_from s ms vpn asid es

-- and the same slots flushed
abbrev pub ClearOnce : Type 0
ClearOnce = (s : Shape) (ms : List ℕ) (vpn : ℕ) (es : List TlbEntry) → clear_once s [] ms vpn es ≡ clear_sets s ms vpn es
