-- P10: the marks that case T's accesses earn, by "any order", on the two words that its map writes. RAM itself is never computed.
use Rattle.std.specs.Prelude.{Ok}
use Prim.Native.Nat.{ℕ, zero, suc, ◌+◌, ◌^◌, ◌≤◌, ◌<◌}
use native.Mathlib.Omega.{arith}
use mathlib.Core.Path.{◌≡◌, refl, sym, ap, ◌∙◌}
use mathlib.Core.Bool.{Bool, true, false, cond}
use mathlib.Core.List.Perm
use mathlib.Core.List.{List}
use lib.Dec.{eqb, lit<}
use lib.ListN.{length, replicate, length-replicate}
use borrow.Author.Tests.{eqb-true}
use Rattle.bits.specs.Bits.{bit, with_bit}
use Rattle.memory.specs.Word.{readable, le_at, put_at}
use Rattle.memory.proofs.Laws.{length_put, read_same, read_other, Apart, before, after}
use Rattle.memory.proofs.Reading.{readable_in}
use Rattle.scheme.specs.Satp.{mode_in, root_in}
use Rattle.scheme.specs.Scheme.{total, ok_widths, valid_of, widths_of, sv32_scheme, bought_of, is_sv39, format_of}
use Rattle.scheme.specs.declared.access.AccessType.{AccessType}
use Rattle.scheme.specs.declared.access.AccessType.TheVariants.{Fetch, Load, Store}
use Rattle.scheme.specs.declared.access.PrivMode.TheVariants.{U, S}
use Rattle.scheme.specs.Scheme.{sv32}
use Rattle.walker.specs.Descent.{frame, place, entry_at, bad_if, leaf_is, entry_is, met_at, follow, seek, descent_of, top_ok, descent_in}
use Rattle.walker.specs.declared.Met.TheVariants.{Leaf}
use Rattle.walk.specs.Answer.{mark_of, mark_in}
use Rattle.walk.specs.Verdict.{fault_if, leaf_judged, judge_of}
use Rattle.walk.specs.declared.Access.{Access}
use Rattle.walk.specs.declared.LeafAt.{LeafAt}
use Rattle.walks.specs.Plain.{Bytes}
use Rattle.entry.specs.Geometry.{pow_up, entries_for}
use Rattle.session.specs.Session.{start_of, end_ram}
use Rattle.order.specs.Runs.{accesses}
use Rattle.order.specs.Plain.{passes, plain_walk, verdict_marks, earned, all_marks}
use Rattle.order.specs.Claims.{Ready}
use Rattle.order.proofs.Claims.{any_order, start_is_empty}
use Rattle.order.proofs.Fit.{mode_01}
use Rattle.plan.specs.Map.{plan_of, flags_of, opens, sum_from, room}
use Rattle.plan.specs.Writes.{row_writes, table_writes}
use Rattle.plan.specs.Levels.{room_at}
use Rattle.installer.specs.Install.{barred, refuse_if, refusal_of, install_said}
use Rattle.maps.proofs.Claims.{bytes_stay}
use Rattle.maps.proofs.Holds.{Holds}
use Rattle.maps.proofs.Sums.{holds_all}
use Rattle.edges.specs.CaseT.{config_t, settings_t, map_t, window_t, asked, events_t, zeros_t, installed_t}
use Rattle.edges.specs.Edges.{EndsAsT, P10}

-- ---- a mark in RAM

module _ (k : AccessType) (ram : List ℕ) (a : ℕ) where
  abbrev marked : List ℕ
  marked = mark_in sv32 k ram a (le_at 4 ram a)

  -- it keeps the length, changes its own word, and no other
  mark_length : length marked ≡ length ram
  unfolding mark_in
  mark_length = go (eqb (mark_of k (le_at 4 ram a)) (le_at 4 ram a))
    where
      go : (b : Bool) → length (cond b ram (put_at 4 ram a (mark_of k (le_at 4 ram a)))) ≡ length ram
      go true = refl
      go false = length_put 4 ram a _

  mark_here : a + 4 ≤ length ram → mark_of k (le_at 4 ram a) < 2 ^ 32 → le_at 4 marked a ≡ mark_of k (le_at 4 ram a)
  unfolding mark_in
  mark_here h fits = go (eqb (mark_of k (le_at 4 ram a)) (le_at 4 ram a)) refl
    where
      go : (b : Bool) → eqb (mark_of k (le_at 4 ram a)) (le_at 4 ram a) ≡ b
          → le_at 4 (cond b ram (put_at 4 ram a (mark_of k (le_at 4 ram a)))) a ≡ mark_of k (le_at 4 ram a)
      go true e = sym (eqb-true _ _ e)
      go false e = read_same 4 ram a _ h fits

  mark_there : (b : ℕ) → Apart 4 a 4 b → le_at 4 marked b ≡ le_at 4 ram b
  unfolding mark_in
  mark_there b apart = go (eqb (mark_of k (le_at 4 ram a)) (le_at 4 ram a))
    where
      go : (t : Bool) → le_at 4 (cond t ram (put_at 4 ram a (mark_of k (le_at 4 ram a)))) b ≡ le_at 4 ram b
      go true = refl
      go false = read_other 4 ram a _ 4 b apart

-- ---- the two words

-- a RAM with x at 4096 and y at 4100
record Two (ram : List ℕ) (x y : ℕ) : Type 0 where
  long : 4104 ≤ length ram
  first : le_at 4 ram 4096 ≡ x
  second : le_at 4 ram 4100 ≡ y

module _ (k : AccessType) (ram : List ℕ) (x y z : ℕ) (t : Two ram x y) (small : z < 2 ^ 32) where
  mark_first : mark_of k x ≡ z → Two (mark_in sv32 k ram 4096 (le_at 4 ram 4096)) z y
  mark_first e =
      let is : mark_of k (le_at 4 ram 4096) ≡ z = ap (mark_of k) t.first ∙ e in
      record {
        long = omega (arith, t.long, mark_length k ram 4096);
        first = mark_here k ram 4096 (omega (arith, t.long)) (rw is small) ∙ is;
        second = mark_there k ram 4096 4100 (after (omega arith)) ∙ t.second;
      }

  mark_second : mark_of k y ≡ z → Two (mark_in sv32 k ram 4100 (le_at 4 ram 4100)) x z
  mark_second e =
      let is : mark_of k (le_at 4 ram 4100) ≡ z = ap (mark_of k) t.second ∙ e in
      record {
        long = omega (arith, t.long, mark_length k ram 4100);
        first = mark_there k ram 4100 4096 (before (omega arith)) ∙ t.first;
        second = mark_here k ram 4100 (omega (arith, t.long)) (rw is small) ∙ is;
      }

-- ---- the accesses

-- a leaf of the top table
abbrev leaf_at : ℕ → ℕ → LeafAt
leaf_at w a = record { raw = w; at = a; shift = 22; level = 0 }

module _ (start : List ℕ) (bytes : Bytes start) (t : Two start 0x1F 0x0010_001F) (readable-first : readable 32 4 start 4096 ≡ true)
    (readable-second : readable 32 4 start 4100 ≡ true) where
  met_first : met_at sv32 start 22 4096 ≡ Ok (Leaf (record { raw = 0x1F; at = 4096 }))
  unfolding met_at bad_if entry_is leaf_is bit
  met_first = rw (readable-first, t.first)

  met_second : met_at sv32 start 22 4100 ≡ Ok (Leaf (record { raw = 0x0010_001F; at = 4100 }))
  unfolding met_at bad_if entry_is leaf_is bit
  met_second = rw (readable-second, t.second)

  -- an access whose entry is a leaf of the top table
  walk_is : (q : Access) (w a : ℕ) → top_ok sv32 q.vaddr ≡ true → entry_at sv32 q.vaddr 1 22 10 ≡ a → met_at sv32 start 22 a ≡ Ok (Leaf (record { raw = w; at = a }))
      → plain_walk settings_t start q ≡ leaf_judged q (leaf_at w a)
  unfolding descent_of descent_in format_of is_sv39 root_in seek follow judge_of total
  walk_is q w a top e met = rw (top, e, met)

  -- and what its marks make of the two words
  earns : (q : Access) (w a : ℕ) → top_ok sv32 q.vaddr ≡ true → entry_at sv32 q.vaddr 1 22 10 ≡ a → met_at sv32 start 22 a ≡ Ok (Leaf (record { raw = w; at = a })) → passes settings_t q ≡ false
      → (ram : List ℕ) {x y : ℕ} → Two (verdict_marks sv32 q (leaf_judged q (leaf_at w a)) ram) x y → Two (earned settings_t start q ram) x y
  unfolding earned format_of is_sv39
  earns q w a top e met p ram two = rw (p, walk_is q w a top e met) two

  -- access by access; the one in S earns nothing
  all_earned : Two (all_marks settings_t start (accesses events_t) start) 0xDF 0x0010_005F
  unfolding all_marks accesses top_ok mode_in format_of is_sv39 entry_at place frame verdict_marks leaf_judged fault_if with_bit bit
  all_earned =
      let one = earns (asked 0x1000 Load U) _ _ refl refl met_first refl _ (mark_first Load start _ _ 0x5F t (lit< tt) refl) in
      let two = earns (asked 0x3F_FFFC Load U) _ _ refl refl met_first refl _ (mark_first Load _ _ _ 0x5F one (lit< tt) refl) in
      let three = earns (asked 0x2000 Store U) _ _ refl refl met_first refl _ (mark_first Store _ _ _ 0xDF two (lit< tt) refl) in
      let four = earns (asked 0x2004 Store U) _ _ refl refl met_first refl _ (mark_first Store _ _ _ 0xDF three (lit< tt) refl) in
      let five = earns (asked 0 Load S) _ _ refl refl met_first refl _ four in
      earns (asked 0x40_0000 Fetch U) _ _ refl refl met_second refl _ (mark_second Fetch _ _ _ 0x0010_005F five (lit< tt) refl)

  -- whatever the cache did
  ends : Two (end_ram events_t (start_of config_t settings_t) start) 0xDF 0x0010_005F
  unfolding bought_of valid_of ok_widths total entries_for pow_up
  ends =
      let ready : Ready settings_t = record { valid = refl; mode = mode_01 sv32_scheme settings_t.satp refl; four = refl } in
      let empty = start_is_empty settings_t ready config_t refl in
      let run = any_order settings_t start bytes _ _ empty empty events_t events_t Perm.rfl in
      rw run.0.ram all_earned

-- ---- the installed words

said_t : refusal_of sv32_scheme map_t window_t 4096 8192 ≡ Ok tt
unfolding refusal_of refuse_if bought_of ok_widths total barred room_at room sum_from opens plan_of
said_t = refl

module _ (ram : List ℕ) (holds : Holds ram (table_writes (plan_of sv32_scheme map_t window_t) (widths_of sv32_scheme) 0 4096)) where
  word_first : (readable 32 4 ram 4096 ≡ true) × (le_at 4 ram 4096 ≡ 0x1F)
  unfolding Holds table_writes row_writes opens total room sum_from plan_of flags_of
  word_first = holds.0

  word_second : (readable 32 4 ram 4100 ≡ true) × (le_at 4 ram 4100 ≡ 0x0010_001F)
  unfolding Holds table_writes row_writes opens total room sum_from plan_of flags_of
  word_second = holds.1.0

any_ram : (ram : List ℕ) → length ram ≡ 8192 → Bytes ram → EndsAsT ram
any_ram ram long bytes =
    let said : install_said sv32_scheme map_t window_t 4096 ram ≡ Ok tt = ap (λ (n : ℕ). refusal_of sv32_scheme map_t window_t 4096 n) long ∙ said_t in
    let start = installed_t ram in
    let holds = holds_all sv32_scheme map_t window_t 4096 ram said in
    let one = word_first start holds in
    let two = word_second start holds in
    let t : Two start 0x1F 0x0010_001F = record { long = readable_in 32 4 start 4100 two.0; first = one.1; second = two.1 } in
    let end = ends start (bytes_stay sv32_scheme map_t window_t 4096 ram bytes) t one.0 two.0 in
    (said, end.first, end.second)

-- ---- zeros

all_bytes : (n x : ℕ) → x < 256 → Bytes (replicate n x)
all_bytes zero x h k = lit< tt
all_bytes (suc n) x h zero = h
all_bytes (suc n) x h (suc k) = all_bytes n x h k

pub p10 : P10
unfolding zeros_t
p10 = (any_ram zeros_t (length-replicate {A = ℕ} 8192 0) (all_bytes 8192 0 (lit< tt)), any_ram)
