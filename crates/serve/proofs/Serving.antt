-- Facts behind the stages of translate: the states that each is handed, and what a walk's answer says of its verdict.
use Rattle.std.specs.Prelude.{Err, Ok, Result}
use Rattle.walk.specs.declared.Fault.{Fault}
use Rattle.walk.specs.declared.LeafAt.{LeafAt}
use Prim.Native.Nat.{ℕ, ◌<◌}
use native.Mathlib.Omega.{arith}
use mathlib.Core.Path.{◌≡◌, refl, sym, ap, ◌∙◌}
use mathlib.Core.Bool.{Bool, true, false, cond}
use mathlib.Core.List.{List}
use Rattle.scheme.specs.Satp.{asid_of}
use Rattle.scheme.specs.Scheme.{valid_of, format_of}
use Rattle.scheme.specs.declared.PagingScheme.{PagingScheme}
use Rattle.walker.specs.Descent.{descent_of}
use Rattle.walk.specs.Verdict.{walk_of}
use Rattle.walk.specs.Answer.{result_of, answer_of}
use Rattle.walk.specs.declared.Access.{Access}
use Rattle.walk.specs.declared.PageFault.{PageFault}
use Rattle.walk.specs.declared.WalkAnswer.{WalkAnswer}
use Rattle.walk.specs.declared.WalkResult.{WalkResult}
use Rattle.walk.proofs.Judged.{end_shift}
use Rattle.walks.proofs.Claims.{scheme_blocks}
use Rattle.tlb.specs.State.{Geo, tlb_install, tlb_probe}
use Rattle.tlb.specs.declared.Tlb.{Tlb}
use Rattle.state.specs.State.{Ready, with_tlb}
use Rattle.access.specs.Translate.{tallied, consult_of, ok_at, fault_of, made_with, made_of, walk_served}
use Rattle.state.specs.declared.Mmu.{Mmu}
use Rattle.access.specs.declared.Consulted.{Consulted}
use Rattle.access.specs.declared.Served.{Served}

-- a miss's page remembered, by whether the TLB is on
abbrev pub kept_as : Mmu → Access → WalkResult → Bool → Mmu
kept_as m q r on = with_tlb m (cond on (tlb_install (tallied 0 1 0 m.tlb) (made_with m.scheme.offset_bits (asid_of m.scheme m.satp.raw) q r)) (tallied 0 1 0 m.tlb))

-- ---- tallies and probes keep what the core needs

pub tallied_geo : (h n f : ℕ) (t : Tlb) → Geo t → Geo (tallied h n f t)
unfolding tallied
tallied_geo h n f t g = record { some = g.some; full = g.full; room = g.room }

pub probe_ready : (m : Mmu) (q : Access) (seen : Consulted) → seen ≡ consult_of m q → Ready m → Ready seen.mmu
unfolding consult_of tlb_probe
probe_ready m q seen e r = rw e (either m.tlb_enabled _ _ (record { valid = r.valid; geo = record { some = r.geo.some; full = r.geo.full; room = r.geo.room }; few = r.few }) r)
  where
    either : (b : Bool) (x y : Consulted) → Ready x.mmu → Ready y.mmu → Ready (cond b x y).mmu
    either true x y p q = p
    either false x y p q = q

-- ---- what a walk's answer says of its verdict

module _ (m : Mmu) (q : Access) (w : WalkAnswer) where
  pub served_ok : (v : Result LeafAt Fault) (r : WalkResult) → w ≡ answer_of (format_of m.scheme) q v → w.answer ≡ Ok r
      → ◌≡◌ {A = Served}
      (record {
        said = ok_at w.words r.paddr m.tlb.config.miss_penalty;
        mmu = kept_as m q r m.tlb_enabled;
      })
      (walk_served m q v)
  unfolding walk_served made_of
  served_ok (Ok l) r e f =
      let g : Ok (result_of (format_of m.scheme) q.vaddr l) ≡ Ok r = sym (ap (λ (x : WalkAnswer). x.answer) e) ∙ f in
      let k : result_of (format_of m.scheme) q.vaddr l ≡ r = cc in
      rw (sym k, e)
  served_ok (Err stop) r e f =
      let g = sym (ap (λ (x : WalkAnswer). x.answer) e) ∙ f in
      absurd cc

  pub served_err : (v : Result LeafAt Fault) (x : PageFault) → w ≡ answer_of (format_of m.scheme) q v → w.answer ≡ Err x
      → ◌≡◌ {A = Served} (record { said = fault_of w.words q; mmu = with_tlb m (tallied 0 1 1 m.tlb) }) (walk_served m q v)
  unfolding walk_served
  served_err (Err stop) x e f = rw e
  served_err (Ok l) x e f =
      let g = sym (ap (λ (y : WalkAnswer). y.answer) e) ∙ f in
      absurd cc

-- a page of a valid scheme has fewer bits than an address
pub page_small : (s : PagingScheme) (root : ℕ) (ram : List ℕ) (q : Access) (r : WalkResult) → valid_of s ≡ true
    → (answer_of (format_of s) q (walk_of s root ram q)).answer ≡ Ok r → r.page_bits < 32
page_small s root ram q r ok f = go (walk_of s root ram q) refl f
  where
    go : (v : Result LeafAt Fault) → walk_of s root ram q ≡ v → (answer_of (format_of s) q v).answer ≡ Ok r → r.page_bits < 32
    go (Ok l) e f =
        let k : result_of (format_of s) q.vaddr l ≡ r = cc in
        omega (arith, (scheme_blocks s root ram q.vaddr ok).high, end_shift q (descent_of ram root s q.vaddr) l e, ap (λ (x : WalkResult). x.page_bits) k)
    go (Err stop) e f = absurd cc
