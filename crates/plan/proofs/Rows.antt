-- A table's writes: entry by entry, and within which addresses.
use Prim.Native.Nat.{ℕ, zero, suc, ◌+◌, ◌-◌, ◌*◌, ◌^◌, ◌≤◌, ◌<◌}
use native.Mathlib.Omega.{arith}
use native.Mathlib.Nat.{sub-zero, zero-add}
use mathlib.Core.Path.{◌≡◌, sym, ap, subst, ◌∙◌}
use mathlib.Core.Bool.{Bool, true, false, cond}
use mathlib.Core.List.{List, [], ◌∷◌, ◌++◌}
use Rattle.plan.specs.declared.Plan.{Plan}
use Rattle.plan.specs.Map.{base_of, opens, slot_of, slot_bytes, table_bytes, sum_from, entry_room, room, leaf_word, pointer_word}
use Rattle.plan.specs.Writes.{Write, ◌≔◌, entry_writes, row_writes, table_writes}
use Rattle.plan.specs.Levels.{from, below, width_at, entries, base_at, opens_at, room_at, entry_room_at, leaf_at, table_at, entry_at, row_from, Fit, Entry}
use Rattle.plan.proofs.Laws.{from_cons, child_at}
use Rattle.plan.proofs.Rooms.{slot_at}

-- ---- a table's writes are those of its entries from the first on, one by one

pub row_start : (p : Plan) (l parent pa : ℕ) → Fit p.scheme → l < p.scheme.levels → table_at p l parent pa ≡ row_from p l parent pa 0 pa
unfolding table_at row_from table_writes
row_start p l parent pa f h =
    ap (λ (ws : List ℕ). table_writes p ws parent pa) (from_cons p.scheme f l h)
    ∙ ap (λ (n : ℕ). row_writes p (below p l) (table_writes p (below p l)) (room p (below p l)) parent pa n 0 pa) (sym (sub-zero (entries p l)))

pub row_step : (p : Plan) (l parent pa i next : ℕ) → i < entries p l
    → row_from p l parent pa i next ≡ entry_at p l parent pa i next ++ row_from p l parent pa (i + 1) (next - entry_room_at p l parent i)
unfolding row_from entry_at row_writes entry_room_at
row_step p l parent pa i next h =
    let one_more : entries p l - i ≡ suc (entries p l - (i + 1)) = omega arith in
    ap (λ (n : ℕ). row_writes p (below p l) (table_writes p (below p l)) (room p (below p l)) parent pa n i next) one_more

pub row_end : (p : Plan) (l parent pa i next : ℕ) → entries p l ≤ i → row_from p l parent pa i next ≡ []
unfolding row_from row_writes
row_end p l parent pa i next h =
    let none : entries p l - i ≡ 0 = omega arith in
    ap (λ (n : ℕ). row_writes p (below p l) (table_writes p (below p l)) (room p (below p l)) parent pa n i next) none

pub entry_open : (p : Plan) (l parent pa i next : ℕ) → Entry p l parent i → opens_at p l (base_at p l parent i) ≡ true
    → entry_at p l parent pa i next
    ≡ ((pa + 4 * i) ≔ pointer_word (next - slot_bytes (width_at p.scheme (l + 1)))) ∷ table_at p (l + 1) (base_at p l parent i) (next - slot_bytes (width_at p.scheme (l + 1)))
unfolding entry_at table_at opens_at base_at
entry_open p l parent pa i next e o = rw (o, slot_at p (l + 1) e.is_at.good.fit (child_at p l parent i e o).inside)

pub entry_shut : (p : Plan) (l parent pa i next : ℕ) → opens_at p l (base_at p l parent i) ≡ false
    → entry_at p l parent pa i next ≡ ((pa + 4 * i) ≔ leaf_at p l (base_at p l parent i)) ∷ []
unfolding entry_at opens_at base_at leaf_at
entry_shut p l parent pa i next o = rw o

-- ---- every word is written at an address from lo on and ends by hi

unfoldable pub In : ℕ → ℕ → List Write → Type 0
In lo hi [] = Unit
In lo hi (w ∷ ws) = ((lo ≤ w.at) × (w.at + 4 ≤ hi)) × In lo hi ws

in_append : (lo hi : ℕ) (vs ws : List Write) → In lo hi vs → In lo hi ws → In lo hi (vs ++ ws)
unfolding In
in_append lo hi [] ws a b = b
in_append lo hi (v ∷ vs) ws a b = (a.0, in_append lo hi vs ws a.1 b)

pub in_wider : (lo hi hi' : ℕ) (ws : List Write) → hi ≤ hi' → In lo hi ws → In lo hi' ws
unfolding In
in_wider lo hi hi' [] h a = a
in_wider lo hi hi' (w ∷ ws) h a = ((a.0.0, omega (arith, a.0.1)), in_wider lo hi hi' ws h a.1)

-- the bytes of the table at the top of the levels ws
abbrev pub table_of : List ℕ → ℕ
table_of [] = 0
table_of (w ∷ ws) = table_bytes w

pub table_slot : (ws : List ℕ) → table_of ws ≤ slot_of ws
table_slot [] = omega arith
table_slot (w ∷ ws) = omega arith

pub entry_in : (t : Bool) (lo pa i n next slot tab rm rest v : ℕ) (kids : List Write) → lo + (cond t (slot + rm) 0 + rest) ≤ next → next ≤ pa → tab ≤ slot
    → (lo + rm ≤ next - slot → In lo (next - slot + tab) kids)
    → In lo (pa + 4 * (i + suc n)) (cond t (((pa + 4 * i) ≔ pointer_word (next - slot)) ∷ kids) (((pa + 4 * i) ≔ v) ∷ []))
unfolding In
entry_in true lo pa i n next slot tab rm rest v kids h top ts inside =
    ((omega arith, omega arith), in_wider lo (next - slot + tab) (pa + 4 * (i + suc n)) kids (omega arith) (inside (omega arith)))
entry_in false lo pa i n next slot tab rm rest v kids h top ts inside = ((omega arith, omega arith), tt)

row_in : (p : Plan) (ws : List ℕ) (parent pa lo : ℕ)
    → ((b c : ℕ) → lo + room p ws b ≤ c → In lo (c + table_of ws) (table_writes p ws b c))
    → (n i next : ℕ) → lo + sum_from (entry_room p ws (room p ws) parent) n i ≤ next → next ≤ pa
    → In lo (pa + 4 * (i + n)) (row_writes p ws (table_writes p ws) (room p ws) parent pa n i next)
unfolding In row_writes sum_from
row_in p ws parent pa lo kids zero i next h top = tt
row_in p ws parent pa lo kids (suc n) i next h top =
    let b = base_of p ws parent i in
    let next' = next - entry_room p ws (room p ws) parent i in
    let rest = row_writes p ws (table_writes p ws) (room p ws) parent pa n (i + 1) next' in
    let count : i + 1 + n ≡ i + suc n = omega arith in
    in_append lo (pa + 4 * (i + suc n)) (entry_writes p ws (table_writes p ws) parent pa i next) rest
    (entry_in (opens p ws b) lo pa i n next (slot_of ws) (table_of ws) (room p ws b) (sum_from (entry_room p ws (room p ws) parent) n (i + 1)) (leaf_word p ws b)
    (table_writes p ws b (next - slot_of ws)) h top (table_slot ws) (kids b (next - slot_of ws)))
    (subst (λ (m : ℕ). In lo (pa + 4 * m) rest) count (row_in p ws parent pa lo kids n (i + 1) next' (omega arith) (omega arith)))

-- a table and all below it is written between its children's lowest byte and its own end
pub tables_in : (p : Plan) (ws : List ℕ) (parent pa lo : ℕ) → lo + room p ws parent ≤ pa → In lo (pa + table_of ws) (table_writes p ws parent pa)
unfolding In room table_writes
tables_in p [] parent pa lo h = tt
tables_in p (w ∷ ws) parent pa lo h =
    subst (λ (n : ℕ). In lo (pa + 4 * n) (table_writes p (w ∷ ws) parent pa)) (zero-add (2 ^ w))
    (row_in p ws parent pa lo (λ b c. tables_in p ws b c lo) (2 ^ w) 0 pa h (omega arith))

pub table_in : (p : Plan) (l parent pa lo : ℕ) → Fit p.scheme → l < p.scheme.levels → lo + room_at p l parent ≤ pa
    → In lo (pa + table_bytes (width_at p.scheme l)) (table_at p l parent pa)
unfolding room_at table_at
table_in p l parent pa lo f h room =
    subst (λ (n : ℕ). In lo (pa + n) (table_writes p (from p.scheme l) parent pa)) (ap table_of (from_cons p.scheme f l h)) (tables_in p (from p.scheme l) parent pa lo room)
