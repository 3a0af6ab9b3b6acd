-- Demand 3, and what every run keeps. proofs/Claims.antt has a proof of each.
-- "Any order: two runs on equal RAM, each with an empty cache of its own size and policy, scheme, satp and switches equal and fixed, only
-- the walker writing RAM; one list of accesses, each with its privilege, the other the same list in another order with flushes put in
-- anywhere. Each access gets, in both, its own address where bypassed, else the address or fault of a plain walk over the starting RAM.
-- Both RAMs end as the starting bytes plus the marks those accesses earn."
use Rattle.std.specs.Prelude.{ℕ, ◌+◌, ◌%◌, ◌^◌, ◌<◌, ◌≡◌, true, false, ◌||◌, ◌⊎◌, length, get_or}
use mathlib.Core.List.{List, [], map, Perm}
use Rattle.bits.specs.Bits.{bit, field_of}
use Rattle.pte.specs.Entry.{a_place, d_place}
use Rattle.scheme.specs.Scheme.{is_sv39, valid_of}
use Rattle.scheme.specs.declared.PagingScheme.{PagingScheme}
use Rattle.scheme.specs.declared.refusal.Refusal.TheVariants.{BadMode}
use Rattle.walk.specs.declared.Access.{Access}
use Rattle.walks.specs.Plain.{plain, Bytes}
use Rattle.entry.specs.declared.TlbConfig.{TlbConfig}
use Rattle.slots.specs.Slots.{entry_at}
use Rattle.state.specs.State.{fit_of}
use Rattle.mmu.specs.Calls.{room_for, new_of, set_scheme_of, reconfigure_of}
use Rattle.state.specs.declared.Mmu.{Mmu}
use Rattle.session.specs.Session.{start_of, end_mmu, end_ram}
use Rattle.session.specs.declared.Settings.{Settings}
use Rattle.session.specs.declared.Event.{Event}
use Rattle.order.specs.Runs.{settings_of, accesses, answers, refusals}
use Rattle.order.specs.Plain.{plain_answer, all_marks, earns_a, earns_d, some_of}
use Rattle.order.specs.Tallies.{count_of, translated, found_hit, walks, found_fault, walk_fault, evicts}

-- "no setting refused": `translate` refuses 10 on Sv39 alone, where satp's mode is neither "8 for Sv39" nor "0 for Bare"
abbrev pub ModeGiven : PagingScheme → ℕ → Type 0
ModeGiven s satp = is_sv39 s ≡ true → (field_of 60 4 satp ≡ 0) ⊎ (field_of 60 4 satp ≡ 8)

-- "an empty cache of its own size and policy, scheme, satp and switches": a fit state with the settings s and no valid entry
pub record Empty (s : Settings) (m : Mmu) : Type 0 where
  pub fit : fit_of m ≡ true
  pub mode : ModeGiven s.scheme s.satp
  pub settings : settings_of m ≡ s
  pub none : (i : ℕ) → i < m.tlb.count → (entry_at m.tlb.entries i).valid ≡ false

-- a run from there: nothing is refused, each access gets its plain answer, and the RAM ends with the marks that the accesses l earn
pub record PlainRun (s : Settings) (start : List ℕ) (m : Mmu) (es : List Event) (l : List Access) : Type 0 where
  pub granted : refusals es m start ≡ []
  pub each : answers es m start ≡ map (plain_answer s start) (accesses es)
  pub ram : end_ram es m start ≡ all_marks s start l start

-- demand 3: both runs are plain, with the marks of the one list
abbrev pub AnyOrder : Type 0
AnyOrder =
    (s : Settings) (start : List ℕ) → Bytes start
    → (one two : Mmu) → Empty s one → Empty s two
    → (es fs : List Event) → Perm (accesses es) (accesses fs)
    → PlainRun s start one es (accesses es) × PlainRun s start two fs (accesses es)

-- what the settings have to be: none refused, and the scheme's widths an array of four
pub record Ready (s : Settings) : Type 0 where
  pub valid : valid_of s.scheme ≡ true
  pub mode : ModeGiven s.scheme s.satp
  pub four : length s.scheme.level_bits ≡ 4

-- the state that `set_up` starts from, by `new`, `set_scheme`, satp and the switches, is such a one, on Sv39 as on document 01's schemes
abbrev pub StartIsEmpty : Type 0
StartIsEmpty = (s : Settings) → Ready s → (config : TlbConfig) → room_for config ≡ true → Empty s (start_of config s)

-- the byte at k at the end: A and D are those of the start and those earned there, and all else is as at the start
pub record EndByte (s : Settings) (start end : List ℕ) (l : List Access) (k : ℕ) : Type 0 where
  pub a : bit a_place (get_or end k 0) ≡ (bit a_place (get_or start k 0) || some_of (earns_a s start k) l)
  pub d : bit d_place (get_or end k 0) ≡ (bit d_place (get_or start k 0) || some_of (earns_d s start k) l)
  pub rest : plain (get_or end k 0) ≡ plain (get_or start k 0)

-- "the starting bytes plus the marks those accesses earn", byte by byte
abbrev pub EndBytes : Type 0
EndBytes =
    (s : Settings) (start : List ℕ) → Bytes start → (m : Mmu) → Empty s m → (es : List Event)
    → (length (end_ram es m start) ≡ length start)
    × ((k : ℕ) → EndByte s start (end_ram es m start) (accesses es) k)

-- what the calls hand back is fit, granted or refused, where they were handed a fit state: so none that only they have changed is ever
-- refused with 3
pub record CallsFit : Type 0 where
  pub new : (c : TlbConfig) → fit_of (new_of c).mmu ≡ true
  pub set_scheme : (m : Mmu) (s : PagingScheme) → length s.level_bits ≡ 4 → fit_of m ≡ true → fit_of (set_scheme_of m s).mmu ≡ true
  pub reconfigure : (m : Mmu) (c : TlbConfig) → fit_of m ≡ true → fit_of (reconfigure_of m c).mmu ≡ true

-- what a run that starts on a fit state is refused with: nothing; but "a satp mode that is neither" has every access refused with 10, "enabled
-- or not", and no flush. It ends fit
pub record Refusing (es : List Event) (m : Mmu) (ram : List ℕ) : Type 0 where
  pub none : ModeGiven m.scheme m.satp.raw → refusals es m ram ≡ []
  pub ten : is_sv39 m.scheme ≡ true → (field_of 60 4 m.satp.raw ≡ 0 → ⊥) → (field_of 60 4 m.satp.raw ≡ 8 → ⊥)
      → refusals es m ram ≡ map (λ q. BadMode) (accesses es)
  pub fit : fit_of (end_mmu es m ram) ≡ true

abbrev pub NoneButTen : Type 0
NoneButTen = (es : List Event) (m : Mmu) (ram : List ℕ) → fit_of m ≡ true → Refusing es m ram

-- "Tallies wrap at 2^64"
abbrev pub Wraps : ℕ → ℕ → Type 0
Wraps a b = a % 2 ^ 64 ≡ b % 2 ^ 64

-- what a run adds to the tallies
pub record Tallied (es : List Event) (m : Mmu) (ram : List ℕ) : Type 0 where
  -- "a found entry that permits the access is a hit"
  pub hits : Wraps (end_mmu es m ram).tlb.stats.hits (m.tlb.stats.hits + count_of found_hit es m ram)
  -- "All else is a miss"
  pub misses : Wraps (end_mmu es m ram).tlb.stats.misses (m.tlb.stats.misses + count_of walks es m ram)
  -- "Hits plus misses plus faults on a found entry equal the accesses neither bypassed nor refused since the tallies were 0, mod 2^64":
  -- from where they were not 0 they are added to
  pub accesses :
      Wraps
      ((end_mmu es m ram).tlb.stats.hits + (end_mmu es m ram).tlb.stats.misses + count_of found_fault es m ram)
      (m.tlb.stats.hits + m.tlb.stats.misses + count_of translated es m ram)
  -- "a found entry that forbids the access .. is a page fault", "a faulting walk adds a page fault"
  pub faults :
      Wraps
      (end_mmu es m ram).tlb.stats.page_faults
      (m.tlb.stats.page_faults + count_of found_fault es m ram + count_of walk_fault es m ram)
  -- "else a victim, and then one eviction is counted"
  pub evictions :
      Wraps
      (end_mmu es m ram).tlb.stats.evictions
      (m.tlb.stats.evictions + count_of evicts es m ram)

abbrev pub TalliesAddUp : Type 0
TalliesAddUp = (es : List Event) (m : Mmu) (ram : List ℕ) → fit_of m ≡ true → Tallied es m ram
