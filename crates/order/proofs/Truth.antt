-- A cache that tells the truth: each valid entry answers as the plain walk over the starting RAM does, and the marks that its hits would
-- earn are made. One step keeps that, answers as the plain walk, and makes the marks that the access earns.
use Rattle.std.specs.Prelude.{Err, Ok, Result}
use Rattle.walk.specs.declared.Fault.{Fault}
use Prim.Native.Nat.{ℕ, ◌+◌, ◌-◌, ◌*◌, ◌/◌, ◌^◌}
use mathlib.Core.Path.{◌≡◌, refl, sym, ap, ◌∙◌}
use mathlib.Core.Bool.{Bool, true, false, cond, ◌&&◌}
use mathlib.Core.List.{List}
use native.Mathlib.Omega.{arith}
use lib.Pow.{shr-shr, shl-shr}
use Rattle.pte.specs.Entry.{perms_of, ppn_of}
use Rattle.scheme.specs.Access.{cause_of}
use Rattle.scheme.specs.Satp.{root_of}
use Rattle.scheme.specs.Scheme.{widths_of, valid_of, format_of}
use Rattle.scheme.specs.declared.Format.{Format}
use Rattle.walker.specs.Descent.{descent_of}
use Rattle.walk.specs.Rights.{allows, open_to}
use Rattle.walk.specs.Verdict.{leaf_judged}
use Rattle.walk.specs.Answer.{marked_by, physical_of}
use Rattle.walk.specs.declared.Access.{Access}
use Rattle.walk.specs.declared.LeafAt.{LeafAt}
use Rattle.walks.specs.Plain.{plain_verdict, Bytes}
use Rattle.walks.proofs.Steady.{Same}
use Rattle.walks.proofs.Marks.{walk_same}
use Rattle.walks.proofs.Claims.{ours_is_sound}
use Rattle.caches.specs.Terms.{Said}
use Rattle.session.specs.declared.Settings.{Settings}
use Rattle.order.specs.Runs.{Heard, At, Faults}
use Rattle.order.specs.Plain.{passes, plain_walk, verdict_heard, plain_answer}
use Rattle.order.proofs.Machine.{page_of, made_by, told_by, Decides, Keeps, Left, Step, Passes, Finds, Walks}
use Rattle.order.proofs.Pages.{byte_marks, marks_comm, marks_bytes, heard_same, marks_same, walk_alike, walk_marks, leaf_heard, leaf_rests, offset_below, same_leaf}

same_trans : (f : Format) (a b c : List ℕ) → Same f a b → Same f b c → Same f a c
same_trans f a b c p q = record { long = p.long ∙ q.long; words = λ x d. p.words x d ∙ q.words x d }

module _ (s : Settings) (start : List ℕ) where
  -- the marks that an access earns, on a byte
  unfoldable pub byte_earned : Access → List ℕ → List ℕ
  byte_earned q ram = cond (passes s q) ram (byte_marks q (plain_walk s start q) ram)

  module _ (q : Access) where
    passes_plain : passes s q ≡ true → plain_answer s start q ≡ At q.vaddr
    unfolding plain_answer
    passes_plain h = rw h

    passes_earns : (ram : List ℕ) → passes s q ≡ true → byte_earned q ram ≡ ram
    unfolding byte_earned
    passes_earns ram h = rw h

    walks_plain : passes s q ≡ false → plain_answer s start q ≡ verdict_heard (format_of s.scheme) q (plain_walk s start q)
    unfolding plain_answer
    walks_plain h = rw h

    walks_earns : (ram : List ℕ) → passes s q ≡ false → byte_earned q ram ≡ byte_marks q (plain_walk s start q) ram
    unfolding byte_earned
    walks_earns ram h = rw h

  earned_marks : (q p : Access) (v : Result LeafAt Fault) (ram : List ℕ) → byte_earned q (byte_marks p v ram) ≡ byte_marks p v (byte_earned q ram)
  unfolding byte_earned
  earned_marks q p v ram = go (passes s q)
    where
      go : (b : Bool) → cond b (byte_marks p v ram) (byte_marks q (plain_walk s start q) (byte_marks p v ram)) ≡ byte_marks p v (cond b ram (byte_marks q (plain_walk s start q) ram))
      go true = refl
      go false = marks_comm q p (plain_walk s start q) v ram

  pub earned_comm : (q p : Access) (ram : List ℕ) → byte_earned q (byte_earned p ram) ≡ byte_earned p (byte_earned q ram)
  unfolding byte_earned
  earned_comm q p ram = go (passes s p)
    where
      go : (b : Bool) → byte_earned q (cond b ram (byte_marks p (plain_walk s start p) ram)) ≡ cond b (byte_earned q ram) (byte_marks p (plain_walk s start p) (byte_earned q ram))
      go true = refl
      go false = earned_marks q p (plain_walk s start p) ram

  -- an entry tells the truth, where RAM is `ram`
  unfoldable pub Truth : List ℕ → Said → Type 0
  Truth ram e = (q : Access) → passes s q ≡ false → Decides s e q → (plain_answer s start q ≡ told_by s e q) × (byte_earned q ram ≡ ram)

  -- it still does when some access has made its marks
  truth_marks : (p : Access) (v : Result LeafAt Fault) (ram : List ℕ) (e : Said) → Truth ram e → Truth (byte_marks p v ram) e
  unfolding Truth
  truth_marks p v ram e t q on d = ((t q on d).0, earned_marks q p v ram ∙ ap (byte_marks p v) (t q on d).1)

  -- an address that a made entry decides lies in the leaf's page
  made_page : (q p : Access) (c n : ℕ) → n ≡ s.scheme.offset_bits + c → page_of s p / 2 ^ c * 2 ^ c / 2 ^ c ≡ page_of s q / 2 ^ c
      → q.vaddr / 2 ^ n ≡ p.vaddr / 2 ^ n
  made_page q p c n e h =
      let o = s.scheme.offset_bits in
      rw e (sym (shr-shr q.vaddr o c) ∙ sym h ∙ shl-shr (page_of s p / 2 ^ c) c ∙ shr-shr p.vaddr o c)

  -- what holds of RAM between accesses: bytes, which differ from those at the start in marks alone
  pub record Steady (ram : List ℕ) : Type 0 where
    pub bytes : Bytes ram
    pub same : Same (format_of s.scheme) start ram
    pub valid : valid_of s.scheme ≡ true

  module _ (ram : List ℕ) (S : Steady ram) where
    abbrev root : ℕ
    root = root_of s.scheme s.satp

    alike : (q : Access) → plain_verdict (plain_walk s start q) ≡ plain_verdict (plain_walk s ram q)
    alike q = walk_alike s.scheme root start ram S.same q

    -- the entry that a walk leaves
    truth_made : (p : Access) (l : LeafAt) → plain_walk s ram p ≡ Ok l → Truth (byte_marks p (Ok l) ram) (made_by s p l)
    unfolding Truth
    truth_made p l met q on d =
        let o = s.scheme.offset_bits in
        let low = offset_below s.scheme root ram p l met in
        let whole : l.shift ≡ o + (l.shift - o) = omega arith in
        let same : plain_walk s ram q ≡ leaf_judged q l =
        same_leaf s.scheme root ram p l met S.valid q (made_page q p (l.shift - o) l.shift whole d.page) in (
          walks_plain q on
              ∙ heard_same q _ _ (alike q) (format_of s.scheme)
              ∙ ap (verdict_heard (format_of s.scheme) q) same
              ∙ leaf_heard q l (format_of s.scheme)
              ∙ ap (λ (n : ℕ). told_at q n) whole,
          walks_earns q (byte_marks p (Ok l) ram) on
              ∙ marks_same q _ _ (alike q) (byte_marks p (Ok l) ram)
              ∙ ap (λ (v : Result LeafAt Fault). byte_marks q v (byte_marks p (Ok l) ram)) same
              ∙ leaf_rests q l p ram d.ready,
        )
      where
        -- what the leaf answers, as a page of n bits
        told_at : Access → ℕ → Heard
        told_at q n =
            cond (allows q.kind (perms_of l.raw) && open_to q.mode (perms_of l.raw))
            (At (physical_of (format_of s.scheme) (ppn_of l.raw) n q.vaddr)) (Faults (cause_of q.kind) q.vaddr)

    -- what a walk leaves in RAM
    walked_is : (p : Access) → marked_by (format_of s.scheme) p.kind ram (plain_walk s ram p) ≡ byte_marks p (plain_walk s ram p) ram
    walked_is p = walk_marks s.scheme root ram p S.bytes

    steady_walk : (p : Access) → Steady (byte_marks p (plain_walk s ram p) ram)
    unfolding descent_of
    steady_walk p = record {
      bytes = marks_bytes p (plain_walk s ram p) ram S.bytes;
      valid = S.valid;
      same = same_trans (format_of s.scheme) start ram _ S.same
          (rw (walked_is p) at (walk_same (format_of s.scheme) (ours_is_sound s.scheme) ram S.bytes p s.scheme.offset_bits (widths_of s.scheme) root));
    }

  -- ---- one step, of any machine whose valid entries `Holds` speaks of

  module _ {State : Type 0} (Holds : (Said → Type 0) → State → Type 0)
      (holds_imp : (P Q : Said → Type 0) (t : State) → ((e : Said) → P e → Q e) → Holds P t → Holds Q t) where
    -- what holds between accesses
    pub record Sound (t : State) (ram : List ℕ) : Type 0 where
      pub steady : Steady ram
      pub truth : Holds (Truth ram) t

    -- what an access has to come to
    pub record Right (q : Access) (ram : List ℕ) (t' : State) (ram' : List ℕ) (x : Heard) : Type 0 where
      pub answer : x ≡ plain_answer s start q
      pub marks : ram' ≡ byte_earned q ram
      pub sound : Sound t' ram'

    module _ (q : Access) (t t' : State) (ram : List ℕ) (S : Sound t ram) where
      -- nothing is earned that is not made
      rests_right : (ram' : List ℕ) (x : Heard) → Keeps s Holds t t' → ram' ≡ ram → byte_earned q ram ≡ ram → x ≡ plain_answer s start q
          → Right q ram t' ram' x
      rests_right ram' x k er h e = record {
        answer = e;
        marks = er ∙ sym h;
        sound = rw er (record { steady = S.steady; truth = k (Truth ram) S.truth });
      }

      walks_right : passes s q ≡ false → Left s Holds q (plain_walk s ram q) t t'
          → Right q ram t' (byte_marks q (plain_walk s ram q) ram) (verdict_heard (format_of s.scheme) q (plain_walk s ram q))
      walks_right on k = record {
        answer = heard_same q _ _ (sym (alike ram S.steady q)) (format_of s.scheme) ∙ sym (walks_plain q on);
        marks = marks_same q _ _ (sym (alike ram S.steady q)) ram ∙ sym (walks_earns q ram on);
        sound = record { steady = steady_walk ram S.steady q; truth = keeps (plain_walk s ram q) refl k };
      }
        where
          old : (v : Result LeafAt Fault) → Holds (Truth (byte_marks q v ram)) t
          old v = holds_imp (Truth ram) (Truth (byte_marks q v ram)) t (truth_marks q v ram) S.truth

          keeps : (v : Result LeafAt Fault) → plain_walk s ram q ≡ v → Left s Holds q v t t' → Holds (Truth (byte_marks q v ram)) t'
          keeps (Ok l) e k = k _ (truth_made ram S.steady q l e) (old (Ok l))
          keeps (Err stop) e k = k _ (old (Err stop))

      pub step_right : (ram' : List ℕ) (x : Heard) → Step s Holds q t ram t' ram' x → Right q ram t' ram' x
      unfolding Truth
      step_right ram' x (Passes on k er ex) = rests_right ram' x k er (passes_earns q ram on) (ex ∙ sym (passes_plain q on))
      step_right ram' x (Finds on e h d k er ex) =
          let y = h (Truth ram) S.truth q on d in
          rests_right ram' x k er y.1 (ex ∙ sym y.0)
      step_right ram' x (Walks on k er ex) = rw (er, ex, walked_is ram S.steady q) (walks_right on k)
