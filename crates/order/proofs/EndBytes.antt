-- The RAM at the end, byte by byte: each access adds the marks that it earns to the bytes where its leaf's word starts.
use Rattle.std.specs.Prelude.{Err, Ok, Result}
use Rattle.walk.specs.declared.Fault.{Fault}
use Prim.Native.Nat.{ℕ, ◌<◌}
use mathlib.Core.Path.{◌≡◌, refl, sym, ap, ◌∙◌}
use mathlib.Core.Bool.{Bool, true, false, not, cond, ◌&&◌, ◌||◌, or_assoc, or-false, or-true, and-true, and-false}
use mathlib.Core.List.{List, [], ◌∷◌}
use native.Mathlib.Decide.{ℕ_discrete}
use native.Mathlib.Omega.{arith}
use lib.Dec.{eqb}
use lib.ListN.{length, get_or, length-set}
use lib.Seq.{get_or-set_same, get_or-set_other}
use borrow.Author.Tests.{eq-eqb, ne_eqb}
use Rattle.bits.specs.Bits.{bit}
use Rattle.memory.proofs.Reading.{readable_in}
use Rattle.scheme.specs.Satp.{root_of}
use Rattle.scheme.proofs.Levels.{modest}
use Rattle.walk.specs.Answer.{mark_of}
use Rattle.walk.specs.declared.Access.{Access}
use Rattle.walk.specs.declared.LeafAt.{LeafAt}
use Rattle.walk.proofs.Judged.{leaf_read}
use Rattle.walks.specs.Plain.{plain}
use Rattle.walks.proofs.Marks.{mark_plain}
use Rattle.access.specs.Translate.{is_store}
use Rattle.session.specs.declared.Settings.{Settings}
use Rattle.order.specs.Plain.{passes, plain_walk, page_at, earns_a, earns_d, some_of}
use Rattle.order.specs.Claims.{EndBytes}
use Rattle.order.proofs.Marks.{byte_marked, mark_a, mark_d}
use Rattle.order.proofs.Pages.{byte_marks}
use Rattle.order.proofs.Truth.{byte_earned}
use Rattle.order.proofs.Order.{byte_all, run_marked}

-- a byte x that became y: A where it was or a says so, D alike
record Becomes (x y : ℕ) (a d : Bool) : Type 0 where
  is_a : bit 6 y ≡ (bit 6 x || a)
  is_d : bit 7 y ≡ (bit 7 x || d)
  rest : plain y ≡ plain x

stays : (x y : ℕ) → y ≡ x → Becomes x y false false
stays x y e = rw e (record { is_a = sym (or-false (bit 6 x)); is_d = sym (or-false (bit 7 x)); rest = refl })

then : (x y z : ℕ) (a d b c : Bool) → Becomes x y a d → Becomes y z b c → Becomes x z (a || b) (d || c)
then x y z a d b c p q = record {
  is_a = q.is_a ∙ ap (λ (t : Bool). t || b) p.is_a ∙ or_assoc (bit 6 x) a b;
  is_d = q.is_d ∙ ap (λ (t : Bool). t || c) p.is_d ∙ or_assoc (bit 7 x) d c;
  rest = q.rest ∙ p.rest;
}

module _ (s : Settings) (start : List ℕ) where
  -- ---- one access

  module _ (q : Access) (ram : List ℕ) (long : length ram ≡ length start) (k : ℕ) where
    -- at the leaf's place, and elsewhere
    page_byte : (l : LeafAt) → l.at < length ram → Dec (l.at ≡ k)
        → Becomes (get_or ram k 0) (get_or (byte_marked q.kind l.at ram) k 0) (eqb l.at k) (is_store q.kind && eqb l.at k)
    page_byte l h (yes e) =
        rw (eq-eqb l.at k e, and-true (is_store q.kind), ← e, get_or-set_same ram l.at (mark_of q.kind (get_or ram l.at 0)) 0 h)
        (record { is_a = mark_a q.kind _ ∙ sym (or-true (bit 6 (get_or ram l.at 0))); is_d = mark_d q.kind _; rest = mark_plain q.kind _ })
    page_byte l h (no n) =
        rw (ne_eqb l.at k n, and-false (is_store q.kind))
        (stays _ _ (get_or-set_other ram l.at k (mark_of q.kind (get_or ram l.at 0)) 0 (λ e. n (sym e))))

    -- an accepted leaf lies in RAM
    inside : (l : LeafAt) → plain_walk s start q ≡ Ok l → l.at < length ram
    inside l e = omega (arith, readable_in _ _ start l.at (leaf_read q s.scheme (root_of s.scheme s.satp) start l e).in_ram, (modest s.scheme).some, long)

    walk_byte : (v : Result LeafAt Fault) → plain_walk s start q ≡ v → Becomes (get_or ram k 0) (get_or (byte_marks q v ram) k 0) (page_at v k) (is_store q.kind && page_at v k)
    unfolding byte_marks page_at
    walk_byte (Ok l) e = page_byte l (inside l e) (ℕ_discrete l.at k)
    walk_byte (Err stop) e = rw (and-false (is_store q.kind)) (stays _ _ refl)

    earned_byte : Becomes (get_or ram k 0) (get_or (byte_earned s start q ram) k 0) (earns_a s start k q) (earns_d s start k q)
    unfolding byte_earned earns_a earns_d
    earned_byte = go (passes s q)
      where
        go : (b : Bool) → Becomes (get_or ram k 0) (get_or (cond b ram (byte_marks q (plain_walk s start q) ram)) k 0)
            (not b && page_at (plain_walk s start q) k) (is_store q.kind && (not b && page_at (plain_walk s start q) k))
        go true = rw (and-false (is_store q.kind)) (stays _ _ refl)
        go false = walk_byte (plain_walk s start q) refl

  marks_length : (q : Access) (v : Result LeafAt Fault) (ram : List ℕ) → length (byte_marks q v ram) ≡ length ram
  unfolding byte_marks
  marks_length q (Ok l) ram = length-set ram l.at _
  marks_length q (Err stop) ram = refl

  earned_length : (q : Access) (ram : List ℕ) → length (byte_earned s start q ram) ≡ length ram
  unfolding byte_earned
  earned_length q ram = go (passes s q)
    where
      go : (b : Bool) → length (cond b ram (byte_marks q (plain_walk s start q) ram)) ≡ length ram
      go true = refl
      go false = marks_length q (plain_walk s start q) ram

  -- ---- a list of accesses

  all_length : (l : List Access) (ram : List ℕ) → length (byte_all s start l ram) ≡ length ram
  unfolding byte_all
  all_length [] ram = refl
  all_length (q ∷ l) ram = all_length l (byte_earned s start q ram) ∙ earned_length q ram

  all_byte : (k : ℕ) (l : List Access) (ram : List ℕ) → length ram ≡ length start
      → Becomes (get_or ram k 0) (get_or (byte_all s start l ram) k 0) (some_of (earns_a s start k) l) (some_of (earns_d s start k) l)
  unfolding byte_all some_of
  all_byte k [] ram long = stays _ _ refl
  all_byte k (q ∷ l) ram long =
      then _ _ _ _ _ _ _ (earned_byte q ram long k) (all_byte k l (byte_earned s start q ram) (earned_length q ram ∙ long))

pub end_bytes : EndBytes
end_bytes s start small m h es =
    rw (run_marked s start small m h es) (
      all_length s start _ start,
      λ k.
          let b = all_byte s start k _ start refl in
          record { a = b.is_a; d = b.is_d; rest = b.rest },
    )
