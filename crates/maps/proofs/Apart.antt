-- No two words of a map touch.
use Prim.Native.Nat.{ℕ, zero, suc, ◌+◌, ◌-◌, ◌*◌, ◌^◌, ◌≤◌}
use native.Mathlib.Omega.{arith}
use mathlib.Core.Path.{◌≡◌}
use mathlib.Core.Logic.{◌⊎◌, inl, inr, ⊎_elim}
use mathlib.Core.Bool.{Bool, true, false, cond}
use mathlib.Core.List.{List, [], ◌∷◌, ◌++◌}
use Rattle.plan.specs.declared.Plan.{Plan}
use Rattle.plan.specs.Map.{base_of, opens, slot_of, sum_from, entry_room, room, leaf_word, pointer_word}
use Rattle.plan.specs.Writes.{Write, ◌≔◌, entry_writes, row_writes, table_writes}
use Rattle.plan.proofs.Rows.{In, tables_in, table_of, table_slot, entry_in}
use Rattle.maps.specs.Written.{Out, Distinct}

pub out_in : (ws : List Write) (lo hi x y : ℕ) → In lo hi ws → (hi ≤ x) ⊎ (y ≤ lo) → Out x y ws
unfolding In Out
out_in [] lo hi x y i s = tt
out_in (w ∷ ws) lo hi x y i s = (⊎_elim (λ h. inl (omega (arith, i.0))) (λ h. inr (omega (arith, i.0))) s, out_in ws lo hi x y i.1 s)

pub out_append : (vs ws : List Write) (x y : ℕ) → Out x y vs → Out x y ws → Out x y (vs ++ ws)
unfolding Out
out_append [] ws x y a b = b
out_append (v ∷ vs) ws x y a b = (a.0, out_append vs ws x y a.1 b)

pub out_part : (ws : List Write) (x y x' y' : ℕ) → x ≤ x' → y' ≤ y → Out x y ws → Out x' y' ws
unfolding Out
out_part [] x y x' y' hx hy o = tt
out_part (w ∷ ws) x y x' y' hx hy o = (⊎_elim (λ h. inl (omega arith)) (λ h. inr (omega arith)) o.0, out_part ws x y x' y' hx hy o.1)

-- writes within a range, and writes that keep clear of it
distinct_append : (vs ws : List Write) (x y : ℕ) → Distinct vs → Distinct ws → In x y vs → Out x y ws → Distinct (vs ++ ws)
unfolding Distinct In
distinct_append [] ws x y dv dw i o = dw
distinct_append (v ∷ vs) ws x y dv dw i o = (
  out_append vs ws v.at (v.at + 4) dv.0 (out_part ws x y v.at (v.at + 4) i.0.0 i.0.1 o),
  distinct_append vs ws x y dv.1 dw i.1 o,
)

entry_out : (t : Bool) (pa i next slot tab rm v : ℕ) (kids : List Write) → cond t (slot + rm) 0 ≤ next → tab ≤ slot
    → (0 + rm ≤ next - slot → In 0 (next - slot + tab) kids)
    → Out next (pa + 4 * i) (cond t (((pa + 4 * i) ≔ pointer_word (next - slot)) ∷ kids) (((pa + 4 * i) ≔ v) ∷ []))
unfolding Out
entry_out true pa i next slot tab rm v kids h ts inside =
    (inr (omega arith), out_in kids 0 (next - slot + tab) next (pa + 4 * i) (inside (omega arith)) (inl (omega arith)))
entry_out false pa i next slot tab rm v kids h ts inside = (inr (omega arith), tt)

entry_distinct : (t : Bool) (pa i next slot tab rm v : ℕ) (kids : List Write) → cond t (slot + rm) 0 ≤ next → next ≤ pa → tab ≤ slot
    → (0 + rm ≤ next - slot → In 0 (next - slot + tab) kids) → (rm ≤ next - slot → Distinct kids)
    → Distinct (cond t (((pa + 4 * i) ≔ pointer_word (next - slot)) ∷ kids) (((pa + 4 * i) ≔ v) ∷ []))
unfolding Distinct Out
entry_distinct true pa i next slot tab rm v kids h top ts inside d =
    (out_in kids 0 (next - slot + tab) (pa + 4 * i) (pa + 4 * i + 4) (inside (omega arith)) (inl (omega arith)), d (omega arith))
entry_distinct false pa i next slot tab rm v kids h top ts inside d = (tt, tt)

module _ (p : Plan) (ws : List ℕ) (parent pa : ℕ) where
  pub row_out : (n i next : ℕ) → sum_from (entry_room p ws (room p ws) parent) n i ≤ next → next ≤ pa
      → Out next (pa + 4 * i) (row_writes p ws (table_writes p ws) (room p ws) parent pa n i next)
  unfolding Out row_writes sum_from
  row_out zero i next h top = tt
  row_out (suc n) i next h top =
      let b = base_of p ws parent i in
      let next' = next - entry_room p ws (room p ws) parent i in
      let c = next - slot_of ws in
      let rest = row_writes p ws (table_writes p ws) (room p ws) parent pa n (i + 1) next' in
      out_append (entry_writes p ws (table_writes p ws) parent pa i next) rest next (pa + 4 * i)
      (entry_out (opens p ws b) pa i next (slot_of ws) (table_of ws) (room p ws b) (leaf_word p ws b) (table_writes p ws b c) (omega arith) (table_slot ws) (tables_in p ws b c 0))
      (out_part rest next' (pa + 4 * (i + 1)) next (pa + 4 * i) (omega arith) (omega arith) (row_out n (i + 1) next' (omega arith) (omega arith)))

  row_distinct : ((b c : ℕ) → room p ws b ≤ c → Distinct (table_writes p ws b c))
      → (n i next : ℕ) → sum_from (entry_room p ws (room p ws) parent) n i ≤ next → next ≤ pa
      → Distinct (row_writes p ws (table_writes p ws) (room p ws) parent pa n i next)
  unfolding Distinct row_writes sum_from
  row_distinct kids zero i next h top = tt
  row_distinct kids (suc n) i next h top =
      let b = base_of p ws parent i in
      let next' = next - entry_room p ws (room p ws) parent i in
      let c = next - slot_of ws in
      let rest = row_writes p ws (table_writes p ws) (room p ws) parent pa n (i + 1) next' in
      let one : i + suc 0 ≡ i + 1 = omega arith in
      distinct_append (entry_writes p ws (table_writes p ws) parent pa i next) rest next' (pa + 4 * (i + 1))
      (entry_distinct (opens p ws b) pa i next (slot_of ws) (table_of ws) (room p ws b) (leaf_word p ws b) (table_writes p ws b c) (omega arith) top (table_slot ws) (tables_in p ws b c 0) (kids b c))
      (row_distinct kids n (i + 1) next' (omega arith) (omega arith))
      (entry_in (opens p ws b) next' pa i 0 next (slot_of ws) (table_of ws) (room p ws b) 0 (leaf_word p ws b) (table_writes p ws b c) (omega arith) top (table_slot ws) (tables_in p ws b c next'))
      (row_out n (i + 1) next' (omega arith) (omega arith))

pub tables_distinct : (p : Plan) (ws : List ℕ) (parent pa : ℕ) → room p ws parent ≤ pa → Distinct (table_writes p ws parent pa)
unfolding Distinct room table_writes
tables_distinct p [] parent pa h = tt
tables_distinct p (w ∷ ws) parent pa h = row_distinct p ws parent pa (λ b c. tables_distinct p ws b c) (2 ^ w) 0 pa h (omega arith)
