-- Where an address goes, from the root of an installed map.
use Rattle.std.specs.Prelude.{Err, Ok}
use Prim.Native.Nat.{ℕ, zero, suc, ◌+◌, ◌*◌, ◌/◌, ◌%◌, ◌^◌, ◌≤◌, ◌<◌}
use native.Mathlib.Omega.{arith}
use native.Mathlib.Nat.{zero-add}
use mathlib.Core.Path.{◌≡◌, refl, sym, ap, subst, ◌∙◌}
use mathlib.Core.Bool.{Bool, true, not, true≢false}
use mathlib.Core.List.{List, [], ◌∷◌}
use lib.ListN.{length, drop}
use lib.Pow.{pow_pos, shl-shr}
use Rattle.pte.specs.Entry.{ppn_of}
use Rattle.scheme.specs.Scheme.{total, widths_of, sv32, format_of}
use Rattle.scheme.specs.declared.Format.{Format}
use Rattle.scheme.specs.declared.PagingScheme.{PagingScheme}
use Rattle.scheme.proofs.Widths.{valid, bought, all_32, not_sv39, in_sv32}
use Rattle.walker.specs.Descent.{frame, descent_of, ended, seek}
use Rattle.walker.specs.declared.Reason.TheVariants.{WrongTop}
use Rattle.walker.proofs.Cases.{right_top, wrong_top}
use Rattle.bits.specs.Bits.{with_low}
use Rattle.walk.specs.Answer.{physical_of}
use Rattle.walk.specs.Verdict.{leaf_judged, judge_of, walk_of}
use Rattle.walk.specs.declared.Access.{Access}
use Rattle.walk.specs.Rights.{allows, open_to}
use Rattle.walk.proofs.Judged.{no_right, privilege, allowed, at_leaf}
use Rattle.walks.proofs.Claims.{top_of_01}
use Rattle.plan.specs.declared.MapRule.{MapRule}
use Rattle.plan.specs.declared.MapRule.TheVariants.{Relative, Absolute}
use Rattle.plan.specs.declared.PageMapSpec.{PageMapSpec}
use Rattle.plan.specs.declared.Plan.{Plan}
use Rattle.plan.specs.declared.Window.{Window}
use Rattle.plan.specs.Map.{plan_of, inherited, has_level, opens, shift, table_bytes, leaf_word}
use Rattle.plan.specs.Writes.{table_writes}
use Rattle.plan.specs.Levels.{width_at, room_at}
use Rattle.plan.proofs.Rows.{table_of, tables_in, in_wider}
use Rattle.installer.specs.Install.{NoneBefore7, install_said, install_ram}
use Rattle.installer.proofs.Install.{flags_small, granted, laid}
use Rattle.maps.specs.Way.{first_not, leaf_level, leaf_shift, leaf_frame, base_on, base_by}
use Rattle.maps.specs.Claims.{Reaches, NotOurs, Sent}
use Rattle.maps.proofs.Fields as fields
use Rattle.maps.proofs.Apart.{tables_distinct}
use Rattle.maps.proofs.Holds.{Holds, survive, tables_words}
use Rattle.maps.proofs.Address.{level_in, sum_whole}
use Rattle.maps.proofs.Tables.{top_table}
use Rattle.maps.proofs.Walked.{base_from, base_by_lem, level_from, Reached, walk_found}

some_level : (ws : List ℕ) (offset : ℕ) → offset ≤ 30 → offset + total ws ≡ 32 → has_level ws ≡ true
unfolding total
some_level [] offset h e = absurd (omega arith)
some_level (w ∷ ws) offset h e = refl

has_length : (ws : List ℕ) → has_level ws ≡ true → 0 < length ws
has_length [] e = absurd (true≢false (sym e))
has_length (w ∷ ws) e = omega arith

first_same : (f g : ℕ → Bool) → ((l : ℕ) → f l ≡ g l) → (n : ℕ) → first_not f n ≡ first_not g n
unfolding first_not
first_same f g e zero = refl
first_same f g e (suc n) = rw (e 0, first_same (λ l. f (suc l)) (λ l. g (suc l)) (λ l. e (suc l)) n)

from_none : (r : MapRule) → inherited r 0 ≡ 0
from_none Relative = refl
from_none Absolute = refl

-- the way from the top table, whose range begins at 0
module _ (p : Plan) (va : ℕ) where
  base_is : (n : ℕ) → base_from p.rule p.scheme.offset_bits (widths_of p.scheme) 0 n va ≡ base_on p n va
  base_is n = base_by_lem p.rule p.scheme.offset_bits (widths_of p.scheme) 0 n va ∙ omega (arith, from_none p.rule)

  level_is : level_from p (widths_of p.scheme) 0 va ≡ leaf_level p va
  unfolding leaf_level
  level_is = first_same _ _ (λ l. ap (opens p (drop (suc l) (widths_of p.scheme))) (base_is l)) (length (widths_of p.scheme))

module _ (s : PagingScheme) (m : PageMapSpec) (win : Window) (root : ℕ) (ram : List ℕ) (ok : install_said s m win root ram ≡ Ok tt) where
  passes : NoneBefore7 s m root (length ram) × (room_at (plan_of s m win) 0 0 ≤ root)
  passes = granted s m win root (length ram) ok

  -- the installed RAM holds every word of the map
  pub holds_all : Holds (install_ram s m win root ram) (table_writes (plan_of s m win) (widths_of s) 0 root)
  unfolding plan_of room_at
  holds_all =
      let p = plan_of s m win in
      let t = passes in
      let low : root < 2 ^ 32 = omega (arith, t.0.top, pow_pos (width_at s 0)) in
      let within = in_wider 0 (root + table_of (widths_of s)) (root + table_bytes (width_at s 0)) _ (omega (arith, top_table (widths_of s))) (tables_in p (widths_of s) 0 root 0 (omega (arith, t.1))) in
      let all = survive (root + table_bytes (width_at s 0)) (table_writes p (widths_of s) 0 root) ram t.0.fits t.0.top
      (tables_distinct p (widths_of s) 0 root t.1) (tables_words p (widths_of s) 0 root (flags_small m.perms m.global) low) within in
      rw (laid s m win root ram ok) all

  module _ (va : ℕ) where
    found : Reached (plan_of s m win) (install_ram s m win root ram) va (widths_of s) 0 0 (root / 4096) (level_from (plan_of s m win) (widths_of s) 0 va)
    unfolding plan_of
    found =
        let v = valid s (bought s passes.0.valid) in
        walk_found (plan_of s m win) m.perms m.global refl passes.0.rights v.offset_low (install_ram s m win root ram) va (widths_of s) 0 root 0
        (some_level (widths_of s) s.offset_bits v.offset_high (all_32 s passes.0.valid)) passes.0.aligned holds_all

    -- the top of a 32-bit address is right, and of any other wrong
    whole_way : va < 2 ^ 32 → seek sv32 (install_ram s m win root ram) va s.offset_bits (widths_of s) 0 (root / 4096) ≡ descent_of (install_ram s m win root ram) (root / 4096) s va
    unfolding descent_of
    whole_way small =
        let top = (top_of_01 s (not_sv39 s passes.0.valid) va).0 small in
        ap (λ (f : Format). seek f (install_ram s m win root ram) va s.offset_bits (widths_of s) 0 (root / 4096)) (sym (in_sv32 s passes.0.valid))
        ∙ right_top (format_of s) _ va _ _ _ top

    pub not_ours : 2 ^ 32 ≤ va → NotOurs s m win root ram va
    unfolding descent_of
    not_ours high = sym (wrong_top (format_of s) _ va _ _ _ ((top_of_01 s (not_sv39 s passes.0.valid) va).1 high))

    pub reaches : va < 2 ^ 32 → Reaches s m win root ram va
    unfolding plan_of frame
    reaches short =
        let p = plan_of s m win in
        let n = leaf_level p va in
        let ws = drop (suc n) (widths_of s) in
        let b = base_on p n va in
        let x = (b + p.delta) % 2 ^ 32 in
        let k = shift p ws in
        let f = x / 2 ^ k * 2 ^ k / 4096 in
        let small : x < 2 ^ 32 = omega arith in
        let wide : 12 ≤ k = omega (arith, (valid s (bought s passes.0.valid)).offset_low) in
        let r = subst (Reached p (install_ram s m win root ram) va (widths_of s) 0 0 (root / 4096)) (level_is p va) found in
        record {
          word = leaf_word p ws b;
          at = r.at;
          ends =
              sym (whole_way short)
              ∙ r.ends
              ∙ ap (λ (y : ℕ). ended (Ok (record { raw = leaf_word p ws y; at = r.at })) k (0 + n)) (base_is p va n)
              ∙ ap (ended (Ok (record { raw = leaf_word p ws b; at = r.at })) k) (zero-add n);
          word_is = refl;
          frame_is = ap (λ (y : ℕ). y * 2 ^ 12 % 2 ^ 32) (fields.ppn_is f (leaf_word p ws b) m.perms m.global refl (fields.number_small x k small wide)) ∙ fields.frame_back x k small wide;
          perms_are = fields.perms_are f (leaf_word p ws b) m.perms m.global refl;
          global_is = fields.global_is f (leaf_word p ws b) m.perms m.global refl;
        }

  -- the absolute rule's sum is the address
  pub whole_address : m.rule ≡ Absolute → (va : ℕ) → va < 2 ^ 32
      → base_on (plan_of s m win) (leaf_level (plan_of s m win) va) va ≡ va / 2 ^ leaf_shift (plan_of s m win) va * 2 ^ leaf_shift (plan_of s m win) va
  unfolding plan_of
  whole_address e va small =
      let p = plan_of s m win in
      let v = valid s (bought s passes.0.valid) in
      let n = leaf_level p va in
      let inside = level_in p va (has_length (widths_of s) (some_level (widths_of s) s.offset_bits v.offset_high (all_32 s passes.0.valid))) in
      let bits : va < 2 ^ (s.offset_bits + total (widths_of s)) = rw (all_32 s passes.0.valid) small in
      ap (λ (r : MapRule). base_by r s.offset_bits (widths_of s) n va) e ∙ sum_whole s.offset_bits (widths_of s) n va inside bits

-- ---- what a walk makes of it

module _ (s : PagingScheme) (m : PageMapSpec) (win : Window) (root : ℕ) (ram : List ℕ) (ok : install_said s m win root ram ≡ Ok tt) (q : Access) (short : q.vaddr < 2 ^ 32) where
  here : Reaches s m win root ram q.vaddr
  here = reaches s m win root ram ok q.vaddr short

  judged : leaf_judged q (record { raw = here.word; at = here.at; shift = leaf_shift (plan_of s m win) q.vaddr; level = leaf_level (plan_of s m win) q.vaddr })
      ≡ walk_of s (root / 4096) (install_ram s m win root ram) q
  judged = at_leaf q _ (record { raw = here.word; at = here.at }) refl ∙ ap (judge_of q) (sym here.ends)

  -- the frame is a whole page, so the low bits are the address's
  lands : physical_of sv32 (ppn_of here.word) (leaf_shift (plan_of s m win) q.vaddr) q.vaddr
      ≡ leaf_frame (plan_of s m win) q.vaddr + q.vaddr % 2 ^ leaf_shift (plan_of s m win) q.vaddr
  lands =
      let k = leaf_shift (plan_of s m win) q.vaddr in
      ap (λ (f : ℕ). with_low k f q.vaddr) here.frame_is ∙ ap (λ (f : ℕ). f * 2 ^ k + q.vaddr % 2 ^ k) (shl-shr _ k)

  pub sent : Sent s m win root ram q
  sent = record {
    no_right = λ e. sym judged ∙ sym (no_right q _ (ap not (ap (allows q.kind) here.perms_are ∙ e)));
    no_privilege = λ a e. sym judged ∙ sym (privilege q _ (ap not (ap (allows q.kind) here.perms_are ∙ a)) (ap not (ap (open_to q.mode) here.perms_are ∙ e)));
    goes = λ a e. (_, (sym judged ∙ sym (allowed q _ (ap not (ap (allows q.kind) here.perms_are ∙ a)) (ap not (ap (open_to q.mode) here.perms_are ∙ e))), lands));
  }

pub unsent : (s : PagingScheme) (m : PageMapSpec) (win : Window) (root : ℕ) (ram : List ℕ) → install_said s m win root ram ≡ Ok tt → (q : Access)
    → 2 ^ 32 ≤ q.vaddr → walk_of s (root / 4096) (install_ram s m win root ram) q ≡ Err (record { why = WrongTop; level = 0 })
unfolding judge_of
unsent s m win root ram ok q high = ap (judge_of q) (not_ours s m win root ram ok q.vaddr high)
