-- The calls that start a state or change what it is set up with hand back a fit one.
use mathlib.Core.Path.{◌≡◌, refl}
use mathlib.Core.Bool.{Bool, true, false, cond}
use lib.ListN.{length}
use borrow.Author.Tests.{leb-true}
use Rattle.scheme.specs.Scheme.{valid_of}
use Rattle.scheme.specs.declared.PagingScheme.{PagingScheme}
use Rattle.scheme.specs.declared.refusal.Refusal.TheVariants.{BadScheme, TooManyEntries}
use Rattle.entry.specs.Geometry.{default_config, pow_up, entries_for}
use Rattle.entry.specs.declared.TlbConfig.{TlbConfig}
use Rattle.tlb.specs.State.{tlb_set_scheme, tlb_reconfigure}
use Rattle.caches.proofs.Claims.{reconfigure_fits}
use Rattle.state.specs.State.{with_tlb, state_new, with_scheme, fit_of}
use Rattle.state.specs.declared.Mmu.{Mmu}
use Rattle.mmu.specs.Calls.{granted_with, refused_with, room_for, new_of, set_scheme_of, reconfigure_of}
use Rattle.order.specs.Claims.{CallsFit}
use Rattle.order.proofs.Serves.{tlb_fits_lem}
use Rattle.order.proofs.Fit.{Sits, fit_with}
use Rattle.order.proofs.Steps.{new_fit, adopted_fit}

default_room : room_for default_config ≡ true
unfolding entries_for pow_up
default_room = refl

new : (c : TlbConfig) → fit_of (new_of c).mmu ≡ true
unfolding new_of
new c = go (room_for c) refl
  where
    go : (b : Bool) → room_for c ≡ b → fit_of (cond b (granted_with (state_new c)) (refused_with TooManyEntries (state_new default_config))).mmu ≡ true
    go true room = new_fit c room
    go false room = new_fit default_config default_room

module _ (m : Mmu) (fit : fit_of m ≡ true) where
  set_scheme_lem : (s : PagingScheme) → length s.level_bits ≡ 4 → fit_of (set_scheme_of m s).mmu ≡ true
  unfolding set_scheme_of
  set_scheme_lem s four = rw fit (go (valid_of s) refl)
    where
      go : (b : Bool) → valid_of s ≡ b → fit_of (cond b (granted_with (with_scheme m s)) (refused_with BadScheme m)).mmu ≡ true
      go true v = adopted_fit m s v four (tlb_fits_lem m fit)
      go false v = fit

  reconfigured : (c : TlbConfig) → room_for c ≡ true → Sits m (tlb_reconfigure m.tlb c)
  unfolding tlb_reconfigure tlb_set_scheme
  reconfigured c room = record { fits = reconfigure_fits m.tlb c (leb-true _ 128 room); offset = refl; masks = refl; classes = refl }

  reconfigure : (c : TlbConfig) → fit_of (reconfigure_of m c).mmu ≡ true
  unfolding reconfigure_of
  reconfigure c = rw fit (go (room_for c) refl)
    where
      go : (b : Bool) → room_for c ≡ b → fit_of (cond b (granted_with (with_tlb m (tlb_reconfigure m.tlb c))) (refused_with TooManyEntries m)).mmu ≡ true
      go true room = fit_with m fit (tlb_reconfigure m.tlb c) (reconfigured c room)
      go false room = fit

pub calls_fit : CallsFit
calls_fit = record { new = new; set_scheme = λ m s four fit. set_scheme_lem m fit s four; reconfigure = λ m c fit. reconfigure m fit c }
