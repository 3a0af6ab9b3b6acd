-- What a map leaves alone: every byte that no written word covers, the gaps behind small child tables among them.
use Rattle.std.specs.Prelude.{Err, Ok, Result, ⊤}
use Rattle.scheme.specs.declared.refusal.Refusal.{Refusal}
use Prim.Native.Nat.{ℕ, zero, suc, ◌+◌, ◌-◌, ◌*◌, ◌^◌, ◌≤◌, ◌<◌}
use native.Mathlib.Omega.{arith}
use native.Mathlib.Nat.{sub-zero}
use mathlib.Core.Path.{◌≡◌, refl, ap, ◌∙◌}
use mathlib.Core.Logic.{inl, inr, ⊎_elim}
use mathlib.Core.Bool.{Bool, true, false, cond}
use mathlib.Core.List.{List, [], ◌∷◌, ◌++◌}
use lib.ListN.{length, get_or}
use Rattle.memory.specs.Word.{put_at}
use Rattle.memory.proofs.Laws.{byte_kept, below, above}
use Rattle.scheme.specs.Scheme.{widths_of}
use Rattle.scheme.specs.declared.PagingScheme.{PagingScheme}
use Rattle.walks.specs.Plain.{Bytes}
use Rattle.walks.proofs.Bytes.{put_bytes_lem}
use Rattle.plan.specs.declared.PageMapSpec.{PageMapSpec}
use Rattle.plan.specs.declared.Plan.{Plan}
use Rattle.plan.specs.declared.Window.{Window}
use Rattle.plan.specs.Map.{plan_of, base_of, opens, table_bytes, slot_bytes, slot_of, sum_from, entry_room, room, leaf_word, pointer_word}
use Rattle.plan.specs.Writes.{Write, ◌≔◌, entry_writes, row_writes, table_writes, all_writes, written}
use Rattle.plan.specs.Levels.{room_at}
use Rattle.plan.proofs.Rows.{In, tables_in, table_of, table_slot, entry_in}
use Rattle.installer.specs.Install.{top_end, install_said, install_ram}
use Rattle.installer.proofs.Install.{granted, laid, not_laid}
use Rattle.maps.specs.Written.{Out}
use Rattle.maps.specs.Tables.{Opened, entry_tables, row_tables, tables_of, all_tables, child_tables, slots_of, Every}
use Rattle.maps.proofs.Apart.{out_in, out_append, out_part, row_out}
use Rattle.maps.proofs.Tables.{every_append, every_map, every_tail, children_slots, top_table}

-- ---- a byte that no word covers

byte_stays : (ws : List Write) (xs : List ℕ) (k : ℕ) → Out k (k + 1) ws → get_or (written 0 ws xs) k 0 ≡ get_or xs k 0
unfolding Out written
byte_stays [] xs k o = refl
byte_stays (w ∷ ws) xs k o =
    byte_stays ws (put_at 4 xs (w.at - 0) w.word) k o.1
    ∙ ap (λ (a : ℕ). get_or (put_at 4 xs a w.word) k 0) (sub-zero w.at)
    ∙ byte_kept 4 xs w.at w.word k (⊎_elim (λ h. above h) (λ h. below (omega arith)) o.0)

pub byte_same : (s : PagingScheme) (m : PageMapSpec) (win : Window) (root : ℕ) (ram : List ℕ) (k : ℕ) → Out k (k + 1) (all_writes (plan_of s m win) root)
    → get_or (install_ram s m win root ram) k 0 ≡ get_or ram k 0
unfolding plan_of
byte_same s m win root ram k o = go (install_said s m win root ram) refl
  where
    go : (said : Result ⊤ Refusal) → install_said s m win root ram ≡ said → get_or (install_ram s m win root ram) k 0 ≡ get_or ram k 0
    go (Ok tt) e = ap (λ xs. get_or xs k 0) (laid s m win root ram e) ∙ byte_stays (all_writes (plan_of s m win) root) ram k o
    go (Err why) e = ap (λ xs. get_or xs k 0) (not_laid s m win root ram why e)

-- ---- and every byte stays one

written_bytes : (ws : List Write) (xs : List ℕ) → Bytes xs → Bytes (written 0 ws xs)
unfolding written
written_bytes [] xs small = small
written_bytes (w ∷ ws) xs small = written_bytes ws (put_at 4 xs (w.at - 0) w.word) (put_bytes_lem 4 xs (w.at - 0) w.word small)

pub bytes_same : (s : PagingScheme) (m : PageMapSpec) (win : Window) (root : ℕ) (ram : List ℕ) → Bytes ram → Bytes (install_ram s m win root ram)
bytes_same s m win root ram small = go (install_said s m win root ram) refl
  where
    go : (said : Result ⊤ Refusal) → install_said s m win root ram ≡ said → Bytes (install_ram s m win root ram)
    go (Ok tt) e = rw (laid s m win root ram e) (written_bytes (all_writes (plan_of s m win) root) ram small)
    go (Err why) e = rw (not_laid s m win root ram why e) small

-- ---- the child tables lie below their parents, each in its own room

abbrev Within : ℕ → ℕ → Opened → Type 0
Within lo hi t = (lo ≤ t.pa) × (t.pa + slot_bytes t.width ≤ hi)

wider : (lo lo' hi hi' : ℕ) → lo ≤ lo' → hi' ≤ hi → (ts : List Opened) → Every (Within lo' hi') ts → Every (Within lo hi) ts
wider lo lo' hi hi' l h ts a = every_map (Within lo' hi') (Within lo hi) (λ t w. (omega (arith, w.0), omega (arith, w.1))) ts a

entry_within : (t : Bool) (lo next slot rm rest : ℕ) (kids : List Opened) → lo + (cond t (slot + rm) 0 + rest) ≤ next
    → (lo + rm ≤ next - slot → Every (Within lo (next - slot + slot)) kids) → Every (Within lo next) (cond t kids [])
unfolding Every
entry_within true lo next slot rm rest kids h inside = wider lo lo next (next - slot + slot) (omega arith) (omega arith) kids (inside (omega arith))
entry_within false lo next slot rm rest kids h inside = tt

row_within : (p : Plan) (ws : List ℕ) (parent lo : ℕ) → ((b c : ℕ) → lo + room p ws b ≤ c → Every (Within lo (c + slot_of ws)) (tables_of p ws b c))
    → (n i next : ℕ) → lo + sum_from (entry_room p ws (room p ws) parent) n i ≤ next → Every (Within lo next) (row_tables p ws (tables_of p ws) parent n i next)
unfolding row_tables sum_from Every
row_within p ws parent lo kids zero i next h = tt
row_within p ws parent lo kids (suc n) i next h =
    let b = base_of p ws parent i in
    let c = next - slot_of ws in
    let next' = next - entry_room p ws (room p ws) parent i in
    let rest = row_tables p ws (tables_of p ws) parent n (i + 1) next' in
    every_append (Within lo next) (entry_tables p ws (tables_of p ws) parent i next) rest
    (entry_within (opens p ws b) lo next (slot_of ws) (room p ws b) (sum_from (entry_room p ws (room p ws) parent) n (i + 1)) (tables_of p ws b c) h (kids b c))
    (wider lo lo next next' (omega arith) (omega arith) rest (row_within p ws parent lo kids n (i + 1) next' (omega arith)))

tables_within : (p : Plan) (ws : List ℕ) (parent pa lo : ℕ) → lo + room p ws parent ≤ pa → Every (Within lo (pa + slot_of ws)) (tables_of p ws parent pa)
unfolding tables_of room Every
tables_within p [] parent pa lo h = tt
tables_within p (w ∷ ws) parent pa lo h =
    let below = row_within p ws parent lo (λ b c. tables_within p ws b c lo) (2 ^ w) 0 pa h in
    ((omega arith, omega arith), wider lo lo (pa + slot_bytes w) pa (omega arith) (omega arith) (row_tables p ws (λ b c. tables_of p ws b c) parent (2 ^ w) 0 pa) below)

-- ---- the gap behind a table, up to the end of its room

abbrev Gap : List Write → Opened → Type 0
Gap ws t = Out (t.pa + table_bytes t.width) (t.pa + slot_bytes t.width) ws

-- a list that keeps clear of the bytes from x to y has nothing in the gaps there
clear_gaps : (ws : List Write) (x y : ℕ) → Out x y ws → (ts : List Opened) → Every (Within x y) ts → Every (Gap ws) ts
clear_gaps ws x y o ts a =
    every_map (Within x y) (Gap ws) (λ t w. out_part ws x y (t.pa + table_bytes t.width) (t.pa + slot_bytes t.width) (omega (arith, w.0)) w.1 o) ts a

both_gaps : (vs ws : List Write) (ts : List Opened) → Every (Gap vs) ts → Every (Gap ws) ts → Every (Gap (vs ++ ws)) ts
unfolding Every
both_gaps vs ws [] a b = tt
both_gaps vs ws (t ∷ ts) a b = (out_append vs ws _ _ a.0 b.0, both_gaps vs ws ts a.1 b.1)

-- a word at or above all of them changes no gap
more_gaps : (w : Write) (ws : List Write) (lo : ℕ) (ts : List Opened) → Every (Within lo w.at) ts → Every (Gap ws) ts → Every (Gap (w ∷ ws)) ts
unfolding Every Out
more_gaps w ws lo [] a b = tt
more_gaps w ws lo (t ∷ ts) a b = ((inr a.0.1, b.0), more_gaps w ws lo ts a.1 b.1)

entry_gaps : (t : Bool) (a next slot rm v u : ℕ) (kids : List Write) (ts : List Opened) → cond t (slot + rm) 0 ≤ next → next ≤ a
    → (0 + rm ≤ next - slot → Every (Within 0 (next - slot + slot)) ts) → (rm ≤ next - slot → Every (Gap kids) ts)
    → Every (Gap (cond t ((a ≔ v) ∷ kids) ((a ≔ u) ∷ []))) (cond t ts [])
unfolding Every
entry_gaps true a next slot rm v u kids ts h top inside gaps =
    more_gaps (a ≔ v) kids 0 ts (wider 0 0 a (next - slot + slot) (omega arith) (omega arith) ts (inside (omega arith))) (gaps (omega arith))
entry_gaps false a next slot rm v u kids ts h top inside gaps = tt

module _ (p : Plan) (ws : List ℕ) (parent pa : ℕ) where
  row_gaps : ((b c : ℕ) → room p ws b ≤ c → Every (Gap (table_writes p ws b c)) (tables_of p ws b c))
      → (n i next : ℕ) → sum_from (entry_room p ws (room p ws) parent) n i ≤ next → next ≤ pa
      → Every (Gap (row_writes p ws (table_writes p ws) (room p ws) parent pa n i next)) (row_tables p ws (tables_of p ws) parent n i next)
  unfolding row_writes row_tables sum_from Every
  row_gaps kids zero i next h top = tt
  row_gaps kids (suc n) i next h top =
      let b = base_of p ws parent i in
      let c = next - slot_of ws in
      let next' = next - entry_room p ws (room p ws) parent i in
      let here = entry_writes p ws (table_writes p ws) parent pa i next in
      let rest = row_writes p ws (table_writes p ws) (room p ws) parent pa n (i + 1) next' in
      let here-tables = entry_tables p ws (tables_of p ws) parent i next in
      let rest-tables = row_tables p ws (tables_of p ws) parent n (i + 1) next' in
      let own = entry_gaps (opens p ws b) (pa + 4 * i) next (slot_of ws) (room p ws b) (pointer_word c) (leaf_word p ws b) (table_writes p ws b c) (tables_of p ws b c) (omega arith) (omega arith) (tables_within p ws b c 0) (kids b c) in
      -- the entry's tables lie from next' to next, which the rest keeps clear of
      let inside = entry_within (opens p ws b) next' next (slot_of ws) (room p ws b) 0 (tables_of p ws b c) (omega arith) (tables_within p ws b c next') in
      let later = clear_gaps rest next' (pa + 4 * (i + 1)) (row_out p ws parent pa n (i + 1) next' (omega arith) (omega arith)) here-tables (wider next' next' (pa + 4 * (i + 1)) next (omega arith) (omega arith) here-tables inside) in
      -- the rest's tables lie below next', where the entry writes nothing
      let one : In next' (pa + 4 * (i + suc 0)) here =
      entry_in (opens p ws b) next' pa i 0 next (slot_of ws) (table_of ws) (room p ws b) 0 (leaf_word p ws b) (table_writes p ws b c) (omega arith) top (table_slot ws) (tables_in p ws b c next') in
      let under = clear_gaps here 0 next' (out_in here next' (pa + 4 * (i + suc 0)) 0 next' one (inr (omega arith))) rest-tables (row_within p ws parent 0 (λ b c. tables_within p ws b c 0) n (i + 1) next' (omega arith)) in
      every_append (Gap (here ++ rest)) here-tables rest-tables
      (both_gaps here rest here-tables own later)
      (both_gaps here rest rest-tables under (row_gaps kids n (i + 1) next' (omega arith) (omega arith)))

tables_gaps : (p : Plan) (ws : List ℕ) (parent pa : ℕ) → room p ws parent ≤ pa → Every (Gap (table_writes p ws parent pa)) (tables_of p ws parent pa)
unfolding table_writes tables_of room Every
tables_gaps p [] parent pa h = tt
tables_gaps p (w ∷ ws) parent pa h = (
  out_in (row_writes p ws (λ b c. table_writes p ws b c) (λ b. room p ws b) parent pa (2 ^ w) 0 pa) 0 (pa + table_bytes w) (pa + table_bytes w) (pa + slot_bytes w)
      (tables_in p (w ∷ ws) parent pa 0 (omega arith)) (inl (omega arith)),
  row_gaps p ws parent pa (λ b c. tables_gaps p ws b c) (2 ^ w) 0 pa h (omega arith),
)

-- ---- of a map that is not refused

module _ (s : PagingScheme) (m : PageMapSpec) (win : Window) (root : ℕ) (ram : List ℕ) (ok : install_said s m win root ram ≡ Ok tt) where
  lies_in : In (root - room (plan_of s m win) (widths_of s) 0) (root + table_of (widths_of s)) (table_writes (plan_of s m win) (widths_of s) 0 root)
  unfolding room_at plan_of
  lies_in = tables_in (plan_of s m win) (widths_of s) 0 root _ (omega (arith, (granted s m win root (length ram) ok).1))

  pub above_same : (k : ℕ) → top_end s root ≤ k → get_or (install_ram s m win root ram) k 0 ≡ get_or ram k 0
  unfolding plan_of
  above_same k h = byte_same s m win root ram k (out_in _ _ _ k (k + 1) lies_in (inl (omega (arith, top_table (widths_of s)))))

  pub below_same : (k : ℕ) → k + slots_of (child_tables (plan_of s m win) root) < root → get_or (install_ram s m win root ram) k 0 ≡ get_or ram k 0
  unfolding plan_of
  below_same k h = byte_same s m win root ram k (out_in _ _ _ k (k + 1) lies_in (inr (omega (arith, children_slots (plan_of s m win) root))))

  pub gaps_same : Every (λ t. (k : ℕ) → t.pa + table_bytes t.width ≤ k → k < t.pa + slot_bytes t.width → get_or (install_ram s m win root ram) k 0 ≡ get_or ram k 0)
      (child_tables (plan_of s m win) root)
  unfolding plan_of room_at
  gaps_same =
      let p = plan_of s m win in
      every_map (Gap (all_writes p root)) _ (λ t o k lo hi. byte_same s m win root ram k (out_part _ _ _ k (k + 1) lo (omega arith) o)) (child_tables p root)
      (every_tail (Gap (all_writes p root)) (all_tables p root) (tables_gaps p (widths_of s) 0 root (granted s m win root (length ram) ok).1))
