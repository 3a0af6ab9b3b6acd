-- The claims of specs/Claims.antt, one proof each.
use Prim.Native.Nat.{ℕ, zero, suc, ◌%◌, ◌≤◌}
use mathlib.Core.Path.{◌≡◌, refl}
use mathlib.Core.Bool.{true}
use native.Mathlib.Nat.{mod-lt}
use lib.Dec.{lit≤}
use lib.ListN.{get_or, replicate}
use Rattle.entry.specs.Entry.{blank}
use Rattle.entry.specs.declared.TlbEntry.{TlbEntry}
use Rattle.entry.proofs.Laws.{entries_sets, sets_some}
use Rattle.slots.specs.Slots.{entry_at}
use Rattle.tlb.specs.Cache.{Cache, clock_in, victim_in}
use Rattle.tlb.specs.State.{Fit, tlb_fits, with_cache, shape_of, cache_of, tlb_new, tlb_reconfigure, tlb_set_scheme, tlb_probe, tlb_install, tlb_flush, tlb_flush_page, tlb_flush_vaddr}
use Rattle.tlb.specs.declared.Tlb.{Tlb}
use Rattle.tlb.proofs.Fitness.{tlb_fit, fit_tlb}
use Rattle.caches.specs.Terms.{Said, said_by, SameScheme}
use Rattle.caches.specs.Claims as claim
use Rattle.caches.proofs.Kept.{Stable, All, keep_install, keep_probe, keep_flush, keep_page}
use Rattle.caches.proofs.Rooms.{SameRoom, install_room, probe_room, flush_room, page_room}
use Rattle.caches.proofs.Finds.{probe_entry}
use Rattle.caches.proofs.Past as past
use Rattle.caches.proofs.Ages.{smallest, greatest}
use Rattle.caches.proofs.Rounds.{clock_takes, clock_clear, clock_more}
use Rattle.caches.proofs.Visits.{find_once_lem, clear_once_lem}

blank_at : (n i : ℕ) → entry_at (replicate n blank) i ≡ blank
blank_at zero i = refl
blank_at (suc n) zero = refl
blank_at (suc n) (suc i) = blank_at n i

-- fitness: the geometry is not touched, and the classes are kept
abbrev Small : TlbEntry → Type 0
Small e = e.mask_bits ≤ 19

small : Stable Small
small = record { mark = λ e n b h. h; drop = λ e h. h }

fits_with : (t : Tlb) (c : Cache) → tlb_fits t ≡ true → (All Small t.count t.entries → All Small t.count c.slots) → tlb_fits (with_cache t c) ≡ true
fits_with t c h k =
    let f : Fit t = tlb_fit t h in
    fit_tlb (with_cache t c) (record {
      geo = record { some = f.geo.some; full = f.geo.full; room = f.geo.room };
      made = f.made;
      split = f.split;
      classes = k f.classes;
    })

pub new_fits : claim.NewFits
unfolding tlb_new
new_fits c h =
    fit_tlb (tlb_new c) (record {
      geo = record {
        some = sets_some c.entry_count c.associativity;
        full = entries_sets c.entry_count c.associativity;
        room = h;
      };
      made = refl;
      split = refl;
      classes = λ i l. rw (blank_at 128 i) (lit≤ tt);
    })

pub scheme_fits : claim.SchemeFits
unfolding tlb_set_scheme tlb_fits
scheme_fits t offset masks n h = h

pub reconfigure_fits : claim.ReconfigureFits
unfolding tlb_reconfigure
reconfigure_fits t c h = scheme_fits (tlb_new c) t.offset_bits t.superpage_masks t.mask_count (new_fits c h)

pub probe_fits : claim.ProbeFits
unfolding tlb_probe
probe_fits t vpn asid h = fits_with t _ h (keep_probe Small small t.count (shape_of t) vpn asid (cache_of t))

pub install_fits : claim.InstallFits
unfolding tlb_install
install_fits t e m h = fits_with t _ h (keep_install Small small t.count e (λ p a. m) (shape_of t) (cache_of t))

pub flush_fits : claim.FlushFits
unfolding tlb_flush
flush_fits t h = fits_with t _ h (keep_flush Small small t.count (shape_of t) (cache_of t))

pub flush_page_fits : claim.FlushPageFits
unfolding tlb_flush_page
flush_page_fits t vpn h = fits_with t _ h (keep_page Small small t.count (shape_of t) vpn (cache_of t))

pub flush_vaddr_fits : claim.FlushVaddrFits
unfolding tlb_flush_vaddr
flush_vaddr_fits t vaddr h = flush_page_fits t _ h

-- the frame: only the cache is given anew
same_with : (t : Tlb) (c : Cache) → SameRoom (cache_of t) c → SameScheme t (with_cache t c)
same_with t c r = record {
  frame = record { config = refl; count = refl; sets = refl; slots = r.slots; hands = r.hands };
  offset = refl;
  masks = refl;
  classes = refl;
  hits = refl;
  misses = refl;
  faults = refl;
}

pub probe_same : claim.ProbeSame
unfolding tlb_probe
probe_same t vpn asid = same_with t _ (probe_room (cache_of t) (shape_of t) vpn asid)

pub install_same : claim.InstallSame
unfolding tlb_install
install_same t e = same_with t _ (install_room (cache_of t) e (shape_of t))

pub flush_same : claim.FlushSame
unfolding tlb_flush
flush_same t = same_with t _ (flush_room (cache_of t) (shape_of t))

pub flush_page_same : claim.FlushPageSame
unfolding tlb_flush_page
flush_page_same t vpn = same_with t _ (page_room (cache_of t) (shape_of t) vpn)

pub flush_vaddr_same : claim.FlushVaddrSame
unfolding tlb_flush_vaddr
flush_vaddr_same t vaddr = flush_page_same t _

pub scheme_same : claim.SchemeSame
unfolding tlb_set_scheme
scheme_same t offset masks n = record { config = refl; count = refl; sets = refl; slots = refl; hands = refl }

pub frame_geo : claim.FrameGeo
frame_geo t u f g = record {
  some = rw f.sets g.some;
  full = rw (f.sets, f.config, f.count) g.full;
  room = rw f.count g.room;
}

-- the slots that are no entries
pub probe_past : claim.ProbePast
probe_past t vpn asid g = past.probe_past t g vpn asid

pub install_past : claim.InstallPast
install_past t e g h = past.install_past t g e h

pub flush_past : claim.FlushPast
flush_past t g = past.flush_past t g

pub flush_page_past : claim.FlushPagePast
flush_page_past t vpn g = past.page_past t g vpn

pub flush_vaddr_past : claim.FlushVaddrPast
unfolding tlb_flush_vaddr
flush_vaddr_past t vaddr g = past.page_past t g _

-- what a probe finds
pub probe_finds : claim.ProbeFinds
probe_finds t vpn asid e g h = probe_entry t vpn asid g e h

-- what the valid entries say
module _ (P : Said → Type 0) where
  abbrev Says : TlbEntry → Type 0
  Says e = e.valid ≡ true → P (said_by e)

  says : Stable Says
  says = record { mark = λ e n b h. h; drop = λ e h v. absurd cc }

  holds_new : (i : ℕ) → Says (entry_at (replicate 128 blank) i)
  holds_new i = rw (blank_at 128 i) (λ v. absurd cc)

pub new_holds : claim.NewHolds
unfolding tlb_new
new_holds P c i l = holds_new P i

pub scheme_holds : claim.SchemeHolds
unfolding tlb_set_scheme
scheme_holds P t offset masks n h = h

pub reconfigure_holds : claim.ReconfigureHolds
unfolding tlb_reconfigure tlb_set_scheme
reconfigure_holds P t c = new_holds P c

pub probe_holds : claim.ProbeHolds
unfolding tlb_probe
probe_holds P t vpn asid h = keep_probe (Says P) (says P) t.count (shape_of t) vpn asid (cache_of t) h

pub install_holds : claim.InstallHolds
unfolding tlb_install
install_holds P t e p h = keep_install (Says P) (says P) t.count e (λ q a v. p) (shape_of t) (cache_of t) h

pub flush_holds : claim.FlushHolds
unfolding tlb_flush
flush_holds P t h = keep_flush (Says P) (says P) t.count (shape_of t) (cache_of t) h

pub flush_page_holds : claim.FlushPageHolds
unfolding tlb_flush_page
flush_page_holds P t vpn h = keep_page (Says P) (says P) t.count (shape_of t) vpn (cache_of t) h

pub flush_vaddr_holds : claim.FlushVaddrHolds
unfolding tlb_flush_vaddr
flush_vaddr_holds P t vaddr h = flush_page_holds P t _ h

pub found_holds : claim.FoundHolds
found_holds P t vpn asid e g h q =
    let f = probe_entry t vpn asid g e q in
    rw f.said (h f.at f.below f.valid)

-- who is given up
pub victims : claim.Victims
unfolding victim_in
victims group start ways c h k =
    let low = smallest c.slots start ways h k in
    (low, low, low, greatest c.slots start ways h k, refl)

pub clock_victim_lem : claim.ClockVictim
unfolding victim_in clock_in
clock_victim_lem group start ways c h k =
    let hand = get_or c.hands group 0 % ways in
    (_, (clock_takes start ways hand (mod-lt (get_or c.hands group 0) h) c.slots k, refl, refl))

pub clock_ends : claim.ClockEnds
clock_ends start ways hand es h k = clock_clear start ways hand h es k

pub clock_rounds : claim.ClockRounds
clock_rounds start ways hand es h k n l = clock_more start ways hand h es k n l

-- each set once
pub finds_once : claim.FindOnce
finds_once s ms vpn asid es = find_once_lem s vpn asid es ms

pub clears_once : claim.ClearOnce
clears_once s ms vpn es = clear_once_lem s vpn ms es
