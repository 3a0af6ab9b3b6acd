-- Demand 3: along a run each access gets its plain answer and makes its marks; and the marks of a list do not depend on its order.
use Prim.Native.Nat.{ℕ}
use mathlib.Core.Path.{◌≡◌, refl, sym, ap, ap₂, subst, ◌∙◌}
use mathlib.Core.Bool.{Bool, true, false, cond}
use mathlib.Core.HLevel.{hedberg}
use mathlib.Core.Logic.{∥∥₁_elim}
use mathlib.Core.List.Perm
use mathlib.Core.List.{List, [], ◌∷◌, map, Perm, Permᴰ, is_set}
use native.Mathlib.Decide.{ℕ_discrete}
use Rattle.walk.specs.declared.Access.{Access}
use Rattle.walks.specs.Plain.{Bytes}
use Rattle.state.specs.State.{fit_of}
use Rattle.slots.specs.Slots.{entry_at}
use Rattle.mmu.specs.Calls.{mode_known, translate_of, translate_ram}
use Rattle.state.specs.declared.Mmu.{Mmu}
use Rattle.session.specs.Session.{start_of, step_mmu, step_ram, end_ram}
use Rattle.session.specs.declared.Settings.{Settings}
use Rattle.session.specs.declared.Event.{Event}
use Rattle.session.specs.declared.Event.TheVariants.{Translate, Flush, FlushAt}
use Rattle.order.specs.Runs.{settings_of, accesses, heard_of, answers}
use Rattle.order.specs.Plain.{passes, plain_walk, plain_answer, earned, all_marks}
use Rattle.order.specs.Claims.{Empty, PlainRun, AnyOrder, StartIsEmpty}
use Rattle.order.proofs.Machine.{Step}
use Rattle.order.proofs.Pages.{byte_marks, marks_byte, marks_bytes}
use Rattle.order.proofs.Truth.{byte_earned, earned_comm, Truth, Sound, Right, step_right}
use Rattle.order.proofs.Fit.{event_fit, event_mode, event_settings, run_granted_lem, mode_known_lem}
use Rattle.order.proofs.Serves.{fit_valid}
use Rattle.scheme.specs.Scheme.{valid_of, format_of}
use Rattle.scheme.proofs.Levels.{modest}
use Rattle.order.proofs.Steps.{HoldsIn, holds_imp, start_settings, start_holds, start_fit, translate_steps, flush_keeps, flush_at_keeps}

-- ---- the marks of a list

module _ (s : Settings) (start : List ℕ) where
  -- on bytes
  unfoldable pub byte_all : List Access → List ℕ → List ℕ
  byte_all [] ram = ram
  byte_all (q ∷ l) ram = byte_all l (byte_earned s start q ram)

  earned_byte : (q : Access) (ram : List ℕ) → Bytes ram → earned s start q ram ≡ byte_earned s start q ram
  unfolding earned byte_earned
  earned_byte q ram small = ap (cond (passes s q) ram) (marks_byte (format_of s.scheme) (modest s.scheme).some q (plain_walk s start q) ram small)

  earned_bytes : (q : Access) (ram : List ℕ) → Bytes ram → Bytes (byte_earned s start q ram)
  unfolding byte_earned
  earned_bytes q ram small = go (passes s q)
    where
      go : (b : Bool) → Bytes (cond b ram (byte_marks q (plain_walk s start q) ram))
      go true = small
      go false = marks_bytes q (plain_walk s start q) ram small

  pub all_byte : (l : List Access) (ram : List ℕ) → Bytes ram → all_marks s start l ram ≡ byte_all l ram
  unfolding all_marks byte_all
  all_byte [] ram small = refl
  all_byte (q ∷ l) ram small =
      ap (all_marks s start l) (earned_byte q ram small) ∙ all_byte l (byte_earned s start q ram) (earned_bytes q ram small)

  all_permᴰ : {l n : List Access} → Permᴰ l n → (ram : List ℕ) → byte_all l ram ≡ byte_all n ram
  unfolding byte_all
  all_permᴰ Permᴰ.nil ram = refl
  all_permᴰ (Permᴰ.cons {a = a} {b = b} {l₁ = l} {l₂ = n} e p) ram = rw e (all_permᴰ p (byte_earned s start b ram))
  all_permᴰ (Permᴰ.swap {a = a} {b = b} {l = l} e f) ram = rw (← e, ← f) (ap (byte_all l) (earned_comm s start b a ram))
  all_permᴰ (Permᴰ.trans p q) ram = all_permᴰ p ram ∙ all_permᴰ q ram

  all_perm : {l n : List Access} → Perm l n → (ram : List ℕ) → byte_all l ram ≡ byte_all n ram
  all_perm p ram = ∥∥₁_elim p (is_set (hedberg ℕ_discrete) _ _) (λ d. all_permᴰ d ram)

  -- ---- one run

  -- what holds between events
  record Good (m : Mmu) (ram : List ℕ) : Type 0 where
    fit : fit_of m ≡ true
    known : mode_known m.scheme m.satp.raw ≡ true
    settings : settings_of m ≡ s
    sound : Sound s start HoldsIn holds_imp m ram

  module _ (m : Mmu) (ram : List ℕ) (g : Good m ram) where
    right : (q : Access) → Right s start HoldsIn holds_imp q ram (translate_of m q ram).mmu (translate_ram m q ram) (heard_of (translate_of m q ram).said.outcome)
    right q =
        step_right s start HoldsIn holds_imp q m _ ram g.sound _ _
        (subst (λ (x : Settings). Step x HoldsIn q m ram (translate_of m q ram).mmu (translate_ram m q ram) (heard_of (translate_of m q ram).said.outcome))
        g.settings (translate_steps m q ram g.fit g.known))

    good_sound : (e : Event) → Sound s start HoldsIn holds_imp (step_mmu e m ram) (step_ram e m ram)
    good_sound (Translate q) = (right q).sound
    good_sound Flush = record { steady = g.sound.steady; truth = flush_keeps m g.fit (Truth s start ram) g.sound.truth }
    good_sound (FlushAt va) = record { steady = g.sound.steady; truth = flush_at_keeps m g.fit (Truth s start ram) g.sound.truth va }

    good_after : (e : Event) → Good (step_mmu e m ram) (step_ram e m ram)
    good_after e = record {
      fit = event_fit m g.fit ram e;
      known = event_mode m g.fit ram e g.known;
      settings = event_settings m g.fit ram e ∙ g.settings;
      sound = good_sound e;
    }

  answers_plain : (es : List Event) (m : Mmu) (ram : List ℕ) → Good m ram → answers es m ram ≡ map (plain_answer s start) (accesses es)
  unfolding answers accesses
  answers_plain [] m ram g = refl
  answers_plain (Translate q ∷ es) m ram g = ap₂ ◌∷◌ (right m ram g q).answer (answers_plain es _ _ (good_after m ram g (Translate q)))
  answers_plain (Flush ∷ es) m ram g = answers_plain es _ _ (good_after m ram g Flush)
  answers_plain (FlushAt va ∷ es) m ram g = answers_plain es _ _ (good_after m ram g (FlushAt va))

  ends_marked : (es : List Event) (m : Mmu) (ram : List ℕ) → Good m ram → end_ram es m ram ≡ byte_all (accesses es) ram
  unfolding end_ram accesses byte_all
  ends_marked [] m ram g = refl
  ends_marked (Translate q ∷ es) m ram g =
      ends_marked es _ _ (good_after m ram g (Translate q)) ∙ ap (byte_all (accesses es)) (right m ram g q).marks
  ends_marked (Flush ∷ es) m ram g = ends_marked es _ _ (good_after m ram g Flush)
  ends_marked (FlushAt va ∷ es) m ram g = ends_marked es _ _ (good_after m ram g (FlushAt va))

  -- ---- from an empty cache

  module _ (small : Bytes start) (m : Mmu) (h : Empty s m) where
    start_known : mode_known m.scheme m.satp.raw ≡ true
    start_known = subst (λ (x : Settings). mode_known x.scheme x.satp ≡ true) (sym h.settings) (mode_known_lem s.scheme s.satp h.mode)

    good_start : Good m start
    good_start = record {
      fit = h.fit;
      known = start_known;
      settings = h.settings;
      sound = record {
        steady = record { bytes = small; same = record { long = refl; words = λ a d. refl }; valid = subst (λ (x : Settings). valid_of x.scheme ≡ true) h.settings (fit_valid m h.fit) };
        truth = λ i l v. let n = h.none i l in absurd cc;
      };
    }

    pub run_marked : (es : List Event) → end_ram es m start ≡ byte_all (accesses es) start
    run_marked es = ends_marked es m start good_start

    run_plain : (es : List Event) (l : List Access) → Perm l (accesses es) → PlainRun s start m es l
    run_plain es l p = record {
      granted = run_granted_lem es m start h.fit start_known;
      each = answers_plain es m start good_start;
      ram = run_marked es ∙ sym (all_perm p start) ∙ sym (all_byte l start small);
    }

pub any_order : AnyOrder
any_order s start small one two e₁ e₂ es fs p =
    (run_plain s start small one e₁ es (accesses es) Perm.rfl, run_plain s start small two e₂ fs (accesses es) p)

pub start_is_empty : StartIsEmpty
start_is_empty s ready config room = record {
  fit = start_fit s config ready room;
  mode = ready.mode;
  settings = start_settings s config ready room;
  none = λ i l. go (entry_at (start_of config s).tlb.entries i).valid (start_holds s config ready room (λ e. ⊥) i l);
}
  where
    go : (b : Bool) → (b ≡ true → ⊥) → b ≡ false
    go true f = absurd (f refl)
    go false f = refl
