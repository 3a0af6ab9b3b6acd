-- The records half way: what is left leaves, from here, what all of them leave from the start.
use mathlib.Core.Path.{◌≡◌, refl, ◌∙◌}
use mathlib.Core.List.{List}
use Prim.Native.Nat.{ℕ, suc, ◌+◌, ◌-◌, ◌*◌, ◌<◌}
use native.Mathlib.Omega.{arith}
use lib.ListN.{length}
use Rattle.std.proofs.Common.{add-zero}
use Rattle.state.specs.declared.Mmu.{Mmu}
use Rattle.session.specs.Session.{step_mmu, step_ram, end_mmu, end_ram}
use Rattle.bundle.specs.Parts.{event_at}
use Rattle.steps.specs.Steps.{events_from}

-- k of `count` records are done
pub record Rest (s : List ℕ) (first count : ℕ) (m₀ : Mmu) (ram₀ ram : List ℕ) (m : Mmu) (k : ℕ) : Type 0 where
  pub same : length ram ≡ length ram₀
  pub mmu : end_mmu (events_from s (first + 8 * k) (count - k)) m ram ≡ end_mmu (events_from s first count) m₀ ram₀
  pub memory : end_ram (events_from s (first + 8 * k) (count - k)) m ram ≡ end_ram (events_from s first count) m₀ ram₀

pub start : (s : List ℕ) (first count : ℕ) (m : Mmu) (ram : List ℕ) → Rest s first count m ram ram m 0
start s first count m ram =
    let z : count - 0 ≡ count = omega arith in
    record { same = refl; mmu = rw (z, add-zero); memory = rw (z, add-zero) }

module _ {s : List ℕ} {first count : ℕ} {m₀ : Mmu} {ram₀ ram : List ℕ} {m : Mmu} {k : ℕ} where
  -- one record more
  pub next : {m' : Mmu} {ram' : List ℕ} → Rest s first count m₀ ram₀ ram m k → k < count → (p : ℕ) → p ≡ first + 8 * k
      → m' ≡ step_mmu (event_at s p) m ram → ram' ≡ step_ram (event_at s p) m ram → length ram' ≡ length ram
      → Rest s first count m₀ ram₀ ram' m' (k + 1)
  unfolding events_from end_mmu end_ram
  next h l p at e f same =
      let z : count - k ≡ suc (count - (k + 1)) = omega arith in
      let w : first + 8 * (k + 1) ≡ first + 8 * k + 8 = omega arith in
      record {
        same = same ∙ h.same;
        mmu = rw (w, e, f, at) (rw z at h.mmu);
        memory = rw (w, e, f, at) (rw z at h.memory);
      }

  pub ended : Rest s first count m₀ ram₀ ram m k → k ≡ count → (m ≡ end_mmu (events_from s first count) m₀ ram₀) × (ram ≡ end_ram (events_from s first count) m₀ ram₀)
  unfolding events_from end_mmu end_ram
  ended h l =
      let z : count - k ≡ 0 = omega arith in
      (rw z at h.mmu, rw z at h.memory)
