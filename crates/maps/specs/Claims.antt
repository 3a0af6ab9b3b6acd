-- What holds of every map that the installer installs, for every scheme, map, window, root and RAM: nothing is asked but that the installer
-- does not refuse. proofs/Claims.antt has a proof of each.
use Rattle.std.specs.Prelude.{ℕ, ◌+◌, ◌-◌, ◌*◌, ◌/◌, ◌%◌, ◌^◌, ◌≤◌, ◌<◌, ◌≡◌, true, false, List, length, get_or, Err, Ok}
use Rattle.pte.specs.Entry.{perms_of, global_bit, ppn_of}
use Rattle.scheme.specs.Scheme.{widths_of, shift_of, sv32, sv32_scheme}
use Rattle.scheme.specs.declared.PagingScheme.{PagingScheme}
use Rattle.scheme.specs.declared.refusal.Refusal.TheVariants.{NoRoom}
use Rattle.walker.specs.Descent.{frame, ended, descent_of}
use Rattle.walker.specs.declared.Reason.TheVariants.{NoRight, Privilege, WrongTop}
use Rattle.walk.specs.Answer.{physical_of}
use Rattle.walk.specs.Rights.{allows, open_to}
use Rattle.walk.specs.Verdict.{walk_of}
use Rattle.walk.specs.declared.Access.{Access}
use Rattle.walk.specs.declared.LeafAt.{LeafAt}
use Rattle.walks.specs.Plain.{Bytes}
use Rattle.plan.specs.declared.MapRule.TheVariants.{Relative, Absolute}
use Rattle.plan.specs.declared.PageMapSpec.{PageMapSpec}
use Rattle.plan.specs.declared.Plan.{Plan}
use Rattle.plan.specs.declared.Window.{Window}
use Rattle.plan.specs.Map.{plan_of, table_bytes, slot_bytes, leaf_word}
use Rattle.plan.specs.Writes.{all_writes}
use Rattle.installer.specs.Install.{top_end, refusal_of, NoneBefore7, install_said, install_ram}
use Rattle.maps.specs.Edges.{map11, window11}
use Rattle.maps.specs.Tables.{all_tables, child_tables, slots_of, words_in, Every, WrittenAt}
use Rattle.maps.specs.Written.{Out, Distinct}
use Rattle.maps.specs.Way.{with_rule, base_on, below_on, leaf_level, leaf_shift, leaf_frame}

-- ---- where an address goes

-- the descent for va over the installed RAM, from the root's frame: it ends at a leaf, at the level that the window gives, whose frame
-- is the rule's sum plus delta mod 2^32, cut down to the page size, with the map's flags
pub record Reaches (s : PagingScheme) (m : PageMapSpec) (win : Window) (root : ℕ) (ram : List ℕ) (va : ℕ) : Type 0 where
  pub word : ℕ
  pub at : ℕ
  pub ends : descent_of (install_ram s m win root ram) (root / 4096) s va
      ≡ ended (Ok (record { raw = word; at = at })) (leaf_shift (plan_of s m win) va) (leaf_level (plan_of s m win) va)
  pub word_is : word ≡ leaf_word (plan_of s m win) (below_on (plan_of s m win) (leaf_level (plan_of s m win) va)) (base_on (plan_of s m win) (leaf_level (plan_of s m win) va) va)
  pub frame_is : frame sv32 (ppn_of word) ≡ leaf_frame (plan_of s m win) va
  pub perms_are : perms_of word ≡ m.perms
  pub global_is : global_bit word ≡ m.global

-- an address of more than 32 bits is none of the scheme's: its top is wrong
abbrev pub NotOurs : PagingScheme → PageMapSpec → Window → ℕ → List ℕ → ℕ → Type 0
NotOurs s m win root ram va =
    descent_of (install_ram s m win root ram) (root / 4096) s va ≡ ended (Err WrongTop) (shift_of s.offset_bits (widths_of s) 0) 0

-- "A leaf's frame is its base plus delta, cut down to the leaf's page size", under both rules ("Both windows and leaves use it")
abbrev pub TheSum : Type 0
TheSum =
    (s : PagingScheme) (m : PageMapSpec) (win : Window) (root : ℕ) (ram : List ℕ) → install_said s m win root ram ≡ Ok tt
    → (va : ℕ) → (va < 2 ^ 32 → Reaches s m win root ram va) × (2 ^ 32 ≤ va → NotOurs s m win root ram va)

-- a walk over the installed RAM: it faults for no other reason than right and privilege, and else sends the address to that frame
-- "with the low (shift) bits taken from the virtual address"
pub record Sent (s : PagingScheme) (m : PageMapSpec) (win : Window) (root : ℕ) (ram : List ℕ) (q : Access) : Type 0 where
  pub no_right : allows q.kind m.perms ≡ false
      → walk_of s (root / 4096) (install_ram s m win root ram) q ≡ Err (record { why = NoRight; level = leaf_level (plan_of s m win) q.vaddr })
  pub no_privilege : allows q.kind m.perms ≡ true → open_to q.mode m.perms ≡ false
      → walk_of s (root / 4096) (install_ram s m win root ram) q ≡ Err (record { why = Privilege; level = leaf_level (plan_of s m win) q.vaddr })
  pub goes : allows q.kind m.perms ≡ true → open_to q.mode m.perms ≡ true
      → (l : LeafAt)
      × ((walk_of s (root / 4096) (install_ram s m win root ram) q ≡ Ok l)
      × (physical_of sv32 (ppn_of l.raw) l.shift q.vaddr
      ≡ leaf_frame (plan_of s m win) q.vaddr + q.vaddr % 2 ^ leaf_shift (plan_of s m win) q.vaddr))

abbrev pub EveryAccessIsSent : Type 0
EveryAccessIsSent =
    (s : PagingScheme) (m : PageMapSpec) (win : Window) (root : ℕ) (ram : List ℕ) → install_said s m win root ram ≡ Ok tt
    → (q : Access)
    → (q.vaddr < 2 ^ 32 → Sent s m win root ram q)
    × (2 ^ 32 ≤ q.vaddr → walk_of s (root / 4096) (install_ram s m win root ram) q ≡ Err (record { why = WrongTop; level = 0 }))

-- under the absolute rule the sum along the path is the address itself, cut down to the leaf's page
abbrev pub TheSumIsTheAddress : Type 0
TheSumIsTheAddress =
    (s : PagingScheme) (m : PageMapSpec) (win : Window) (root : ℕ) (ram : List ℕ) → install_said s m win root ram ≡ Ok tt
    → m.rule ≡ Absolute → (va : ℕ) → va < 2 ^ 32
    → base_on (plan_of s m win) (leaf_level (plan_of s m win) va) va
    ≡ va / 2 ^ leaf_shift (plan_of s m win) va * 2 ^ leaf_shift (plan_of s m win) va

-- ---- the two rules

-- "The two agree when the scheme has one level, or the window is empty or ends no higher than the span of one entry of the last but one
-- level"
pub data Agreeing (s : PagingScheme) (win : Window) : Type 0 where
  one_level : s.levels ≡ 1 → Agreeing s win
  empty : win.end ≤ win.start → Agreeing s win
  low : win.end ≤ 2 ^ shift_of s.offset_bits (widths_of s) (s.levels - 2) → Agreeing s win

abbrev pub RulesAgree : Type 0
RulesAgree =
    (s : PagingScheme) (m : PageMapSpec) (win : Window) (root : ℕ) (ram : List ℕ) → Agreeing s win
    → (install_said s (with_rule Absolute m) win root ram ≡ install_said s (with_rule Relative m) win root ram)
    × (install_ram s (with_rule Absolute m) win root ram ≡ install_ram s (with_rule Relative m) win root ram)

-- and the map of P11 shows that elsewhere they differ
abbrev pub RulesDiffer : Type 0
RulesDiffer =
    (ram : List ℕ) → length ram ≡ 69632
    → install_ram sv32_scheme (map11 Absolute) window11 65536 ram ≡ install_ram sv32_scheme (map11 Relative) window11 65536 ram → ⊥

-- ---- what is written

-- 7 is given exactly when "the child tables need more bytes than lie below the root", the child tables that the map opens, "each rounded up
-- to 4096"
abbrev pub CountIsWritten : Type 0
CountIsWritten =
    (s : PagingScheme) (m : PageMapSpec) (win : Window) (root len : ℕ)
    → (refusal_of s m win root len ≡ Err NoRoom → NoneBefore7 s m root len × (root < slots_of (child_tables (plan_of s m win) root)))
    × (NoneBefore7 s m root len → root < slots_of (child_tables (plan_of s m win) root) → refusal_of s m win root len ≡ Err NoRoom)

-- no word is written twice; "Every word of each table is written"; and no other, as there are as many
pub record Once (p : Plan) (root : ℕ) : Type 0 where
  pub distinct : Distinct (all_writes p root)
  pub full : Every (λ t. (i : ℕ) → i < 2 ^ t.width → WrittenAt (t.pa + 4 * i) (all_writes p root)) (all_tables p root)
  pub no_more : length (all_writes p root) ≡ words_in (all_tables p root)

abbrev pub WrittenOnce : Type 0
WrittenOnce =
    (s : PagingScheme) (m : PageMapSpec) (win : Window) (root : ℕ) (ram : List ℕ) → install_said s m win root ram ≡ Ok tt
    → Once (plan_of s m win) root

-- ---- what is kept

abbrev pub Kept : PagingScheme → PageMapSpec → Window → ℕ → List ℕ → ℕ → Type 0
Kept s m win root ram k = get_or (install_ram s m win root ram) k 0 ≡ get_or ram k 0

-- "RAM outside the tables keeps its bytes": every byte that no written word covers
abbrev pub OutsideKept : Type 0
OutsideKept =
    (s : PagingScheme) (m : PageMapSpec) (win : Window) (root : ℕ) (ram : List ℕ) (k : ℕ)
    → Out k (k + 1) (all_writes (plan_of s m win) root) → Kept s m win root ram k

-- among them all from the top table's end on, all below the child tables, and the gaps between a child table's end and its room's
pub record Spared (s : PagingScheme) (m : PageMapSpec) (win : Window) (root : ℕ) (ram : List ℕ) : Type 0 where
  pub above : (k : ℕ) → top_end s root ≤ k → Kept s m win root ram k
  pub below : (k : ℕ) → k + slots_of (child_tables (plan_of s m win) root) < root → Kept s m win root ram k
  pub gaps : Every (λ t. (k : ℕ) → t.pa + table_bytes t.width ≤ k → k < t.pa + slot_bytes t.width → Kept s m win root ram k)
      (child_tables (plan_of s m win) root)

abbrev pub GapsKept : Type 0
GapsKept =
    (s : PagingScheme) (m : PageMapSpec) (win : Window) (root : ℕ) (ram : List ℕ) → install_said s m win root ram ≡ Ok tt
    → Spared s m win root ram

-- RAM stays bytes, as a lent slice is
abbrev pub BytesStay : Type 0
BytesStay =
    (s : PagingScheme) (m : PageMapSpec) (win : Window) (root : ℕ) (ram : List ℕ) → Bytes ram → Bytes (install_ram s m win root ram)
