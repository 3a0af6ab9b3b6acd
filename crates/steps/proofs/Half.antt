-- The records half way, with their lines: what is left gives, from here, what all of them give from the start.
use mathlib.Core.Path.{◌≡◌, refl}
use mathlib.Core.List.{List}
use Prim.Native.Nat.{ℕ, suc, ◌+◌, ◌-◌, ◌*◌, ◌<◌}
use native.Mathlib.Omega.{arith}
use lib.ListN.{length}
use Rattle.std.proofs.Common.{add-zero}
use Rattle.walk.specs.declared.Access.{Access}
use Rattle.state.specs.State.{fit_of}
use Rattle.state.specs.declared.Mmu.{Mmu}
use Rattle.mmu.specs.Calls.{mode_known, translate_of}
use Rattle.bundle.specs.Parts.{event_at}
use Rattle.writer.specs.Wrote.{Wrote}
use Rattle.writer.specs.declared.Out.{Out}
use Rattle.writer.proofs.Wrotes as Wrotes
use Rattle.writer.proofs.Going as Going
use Rattle.text.proofs.Numbers.{Short, either, served_short}
use Rattle.session.specs.Session.{step_mmu, step_ram, end_mmu, end_ram}
use Rattle.steps.specs.Steps.{events_from, step_line, lines_from}
use Rattle.steps.proofs.Rest as Rest

-- the cause that an answer tells is short, as `put_answer` asks
pub translated_short : (m : Mmu) (q : Access) (ram : List ℕ) → Short (translate_of m q ram)
unfolding translate_of
translated_short m q ram = either (fit_of m) _ _ (either (mode_known m.scheme m.satp.raw) _ _ (served_short m q ram) (omega arith)) (omega arith)

-- k of `count` records are done
pub record Half (s : List ℕ) (first count : ℕ) (m₀ : Mmu) (ram₀ ram : List ℕ) (out₀ out : Out) (m : Mmu) (k : ℕ) : Type 0 where
  pub rest : Rest.Rest s first count m₀ ram₀ ram m k
  pub lines : Going.Going (25 * k) out₀ out (lines_from (events_from s (first + 8 * k) (count - k)) m ram) (lines_from (events_from s first count) m₀ ram₀)

pub start : (s : List ℕ) (first count : ℕ) (m : Mmu) (ram : List ℕ) (out : Out) → Half s first count m ram ram out out m 0
start s first count m ram out =
    let z : count - 0 ≡ count = omega arith in
    record { rest = Rest.start s first count m ram; lines = rw (z, add-zero) (Going.start out _) }

module _ {s : List ℕ} {first count : ℕ} {m₀ : Mmu} {ram₀ ram : List ℕ} {out₀ out : Out} {m : Mmu} {k : ℕ} where
  -- one record more
  pub next : {m' : Mmu} {ram' : List ℕ} {out' : Out} → Half s first count m₀ ram₀ ram out₀ out m k → k < count
      → m' ≡ step_mmu (event_at s (first + 8 * k)) m ram → ram' ≡ step_ram (event_at s (first + 8 * k)) m ram → length ram' ≡ length ram
      → Wrote 25 out out' (step_line (event_at s (first + 8 * k)) m ram)
      → Half s first count m₀ ram₀ ram' out₀ out' m' (k + 1)
  unfolding events_from lines_from
  next h l e f same p =
      let z : count - k ≡ suc (count - (k + 1)) = omega arith in
      let w : first + 8 * (k + 1) ≡ first + 8 * k + 8 = omega arith in
      record {
        rest = Rest.next h.rest l _ refl e f same;
        lines = rw (w, e, f) (Going.within (omega arith) (Going.then (rw z at h.lines) p));
      }

  pub ended : Half s first count m₀ ram₀ ram out₀ out m k → k ≡ count
      → (m ≡ end_mmu (events_from s first count) m₀ ram₀) × (ram ≡ end_ram (events_from s first count) m₀ ram₀)
      × Wrote (25 * count) out₀ out (lines_from (events_from s first count) m₀ ram₀)
  unfolding events_from lines_from
  ended h l =
      let z : count - k ≡ 0 = omega arith in
      let r = Rest.ended h.rest l in
      (r.0, r.1, Wrotes.within (omega arith) (Going.ended (rw z at h.lines)))
