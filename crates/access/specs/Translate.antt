-- What `translate` answers, and the state and RAM that it leaves, on a fit state.
use Rattle.std.specs.Prelude.{ℕ, ◌+◌, ◌-◌, ◌*◌, ◌/◌, ◌%◌, ◌^◌, Bool, true, false, cond, not, ◌&&◌, ◌||◌, List, Err, None, Ok, Option, Result, Some}
use Rattle.access.specs.declared.Denied.{Denied}
use Rattle.access.specs.declared.Place.{Place}
use Rattle.walk.specs.declared.Fault.{Fault}
use Rattle.pte.specs.Entry.{ppn_of}
use Rattle.scheme.specs.Access.{cause_of}
use Rattle.scheme.specs.Scheme.{format_of}
use Rattle.scheme.specs.declared.PagingScheme.{PagingScheme}
use Rattle.scheme.specs.Satp.{mode_of, asid_of, root_of}
use Rattle.scheme.specs.declared.access.AccessType.{AccessType}
use Rattle.scheme.specs.declared.access.AccessType.TheVariants.{Fetch, Load, Store}
use Rattle.scheme.specs.declared.access.PrivMode.{PrivMode}
use Rattle.scheme.specs.declared.access.PrivMode.TheVariants.{U, S, M}
use Rattle.scheme.specs.declared.satp.SatpMode.{SatpMode}
use Rattle.scheme.specs.declared.satp.SatpMode.TheVariants.{Bare, Paged, Neither}
use Rattle.walk.specs.Rights.{allows, open_to}
use Rattle.walk.specs.Verdict.{walk_of}
use Rattle.walk.specs.Answer.{marked_by, physical_of, result_of, words_of}
use Rattle.walk.specs.declared.Access.{Access}
use Rattle.walk.specs.declared.LeafAt.{LeafAt}
use Rattle.walk.specs.declared.WalkResult.{WalkResult}
use Rattle.entry.specs.declared.TlbEntry.{TlbEntry}
use Rattle.tlb.specs.State.{tlb_probe, tlb_install}
use Rattle.tlb.specs.declared.Tlb.{Tlb}
use Rattle.state.specs.State.{with_tlb}
use Rattle.state.specs.declared.Mmu.{Mmu}
use Rattle.access.specs.declared.Answer.{Answer}
use Rattle.access.specs.declared.Consulted.{Consulted}
use Rattle.access.specs.declared.Served.{Served}

-- ---- who is translated

abbrev pub is_bare : SatpMode → Bool
is_bare Bare = true
is_bare Paged = false
is_bare Neither = false

abbrev pub is_machine : PrivMode → Bool
is_machine U = false
is_machine S = false
is_machine M = true

abbrev pub is_store : AccessType → Bool
is_store Fetch = false
is_store Load = false
is_store Store = true

-- "not enabled, or Bare, or machine mode without `force_translate`", by the switches, satp and the privilege
abbrev pub passes_with : PagingScheme → Bool → Bool → ℕ → PrivMode → Bool
passes_with s enabled force satp mode = (not enabled || is_bare (mode_of s satp)) || (is_machine mode && not force)

abbrev pub bypassed : Mmu → Access → Bool
bypassed m q = passes_with m.scheme m.enabled m.force_translate m.satp.raw q.mode

-- ---- the tallies

-- "Tallies wrap at 2^64": so many hits, misses and page faults more
unfoldable pub tallied : ℕ → ℕ → ℕ → Tlb → Tlb
tallied hits misses faults t = record {
  entries = t.entries;
  clock_hands = t.clock_hands;
  count = t.count;
  sets = t.sets;
  age_counter = t.age_counter;
  config = t.config;
  stats = record {
    hits = (t.stats.hits + hits) % 2 ^ 64;
    misses = (t.stats.misses + misses) % 2 ^ 64;
    evictions = t.stats.evictions;
    page_faults = (t.stats.page_faults + faults) % 2 ^ 64;
  };
  offset_bits = t.offset_bits;
  superpage_masks = t.superpage_masks;
  mask_count = t.mask_count;
}

-- ---- the probe

-- the page number of an address, whole: of Sv39's top "a cached VPN keeps those bits"
abbrev pub vpn_of : Mmu → Access → ℕ
vpn_of m q = q.vaddr / 2 ^ m.scheme.offset_bits

-- "a store on a non-dirty entry, which walks"
abbrev pub must_walk : TlbEntry → Access → Bool
must_walk e q = is_store q.kind && not e.dirty

-- an entry that answers without a walk, or nothing
abbrev pub decides : Access → Option TlbEntry → Option TlbEntry
decides q (Some e) = cond (must_walk e q) None (Some e)
decides q None = None

-- "With the TLB on": the probe, and the state as it leaves it
unfoldable pub consult_of : Mmu → Access → Consulted
consult_of m q =
    cond m.tlb_enabled
    (record {
      lookup = decides q (tlb_probe m.tlb (vpn_of m q) (asid_of m.scheme m.satp.raw)).lookup;
      mmu = with_tlb m (tlb_probe m.tlb (vpn_of m q) (asid_of m.scheme m.satp.raw)).tlb;
    })
    (record { lookup = None; mmu = m })

-- ---- the answers

abbrev pub ok_at : ℕ → ℕ → ℕ → Answer
ok_at words pa stall = record { words = words; outcome = Ok (record { paddr = pa; stall = stall }) }

abbrev pub fault_of : ℕ → Access → Answer
fault_of words q = record { words = words; outcome = Err (Denied.Fault (record { cause = cause_of q.kind; vaddr = q.vaddr })) }

-- the cause that an outcome tells, 0 where there is none
abbrev pub cause_in : Result Place Denied → ℕ
cause_in (Ok p) = 0
cause_in (Err (Denied.Fault f)) = f.cause
cause_in (Err (Denied.Refused why)) = 0

-- "gives the same address, stall 0, nothing touched"
abbrev pub passed_of : Mmu → Access → Served
passed_of m q = record { said = ok_at 0 q.vaddr 0; mmu = m }

abbrev pub entry_permits : TlbEntry → Access → Bool
entry_permits e q = allows q.kind e.perms && open_to q.mode e.perms

-- "a found entry that permits the access is a hit"; "A found entry that forbids the access .. is a page fault, no hit and no miss".
-- "an old one's page bits are the new offset plus its class"
-- "Stall is the hit latency or the miss penalty"
unfoldable pub found_served : Mmu → TlbEntry → Access → Served
found_served m e q =
    cond (entry_permits e q)
    (record {
      said = ok_at 0 (physical_of (format_of m.scheme) e.ppn (m.scheme.offset_bits + e.mask_bits) q.vaddr) m.tlb.config.hit_latency;
      mmu = with_tlb m (tallied 1 0 0 m.tlb);
    })
    (record { said = fault_of 0 q; mmu = with_tlb m (tallied 0 0 1 m.tlb) })

-- what a walk's result is remembered as: its class is its page bits less the offset, and the VPN's class bits are cleared. "Installed
-- dirty means only that this access was a store"
abbrev pub made_with : ℕ → ℕ → Access → WalkResult → TlbEntry
made_with offset asid q r = record {
  vpn = q.vaddr / 2 ^ offset / 2 ^ (r.page_bits - offset) * 2 ^ (r.page_bits - offset);
  ppn = r.ppn;
  age = 0;
  asid = asid;
  perms = r.perms;
  valid = true;
  global = r.global;
  accessed = true;
  dirty = is_store q.kind;
  mask_bits = r.page_bits - offset;
  ref_bit = false;
}

unfoldable pub made_of : Mmu → Access → LeafAt → TlbEntry
made_of m q l = made_with m.scheme.offset_bits (asid_of m.scheme m.satp.raw) q (result_of (format_of m.scheme) q.vaddr l)

-- "All else is a miss, and a faulting walk adds a page fault"; with the TLB off nothing is installed
unfoldable pub walk_served : Mmu → Access → Result LeafAt Fault → Served
walk_served m q (Ok l) = record {
  said = ok_at (words_of (format_of m.scheme) q.vaddr (Ok l)) (physical_of (format_of m.scheme) (ppn_of l.raw) l.shift q.vaddr) m.tlb.config.miss_penalty;
  mmu = with_tlb m
      (cond m.tlb_enabled (tlb_install (tallied 0 1 0 m.tlb) (made_of m q l)) (tallied 0 1 0 m.tlb));
}
walk_served m q (Err stop) = record {
  said = fault_of (words_of (format_of m.scheme) q.vaddr (Err stop)) q;
  mmu = with_tlb m (tallied 0 1 1 m.tlb);
}

-- the plain walk that a miss makes
abbrev pub miss_walk : Mmu → Access → List ℕ → Result LeafAt Fault
miss_walk m q ram = walk_of m.scheme (root_of m.scheme m.satp.raw) ram q

abbrev pub look_served : Mmu → Access → List ℕ → Option TlbEntry → Served
look_served m q ram (Some e) = found_served m e q
look_served m q ram None = walk_served m q (miss_walk m q ram)

abbrev pub look_ram : Mmu → Access → List ℕ → Option TlbEntry → List ℕ
look_ram m q ram (Some e) = ram
look_ram m q ram None = marked_by (format_of m.scheme) q.kind ram (miss_walk m q ram)

-- what translate answers and leaves
unfoldable pub served_of : Mmu → Access → List ℕ → Served
served_of m q ram = cond (bypassed m q) (passed_of m q) (look_served (consult_of m q).mmu q ram (consult_of m q).lookup)

unfoldable pub served_ram : Mmu → Access → List ℕ → List ℕ
served_ram m q ram = cond (bypassed m q) ram (look_ram (consult_of m q).mmu q ram (consult_of m q).lookup)
