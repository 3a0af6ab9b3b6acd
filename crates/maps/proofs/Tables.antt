-- The tables that a map opens: the room they take, and that their words are what is written.
use Prim.Native.Nat.{ℕ, zero, suc, ◌+◌, ◌-◌, ◌*◌, ◌^◌, ◌≤◌, ◌<◌}
use native.Mathlib.Omega.{arith}
use native.Mathlib.Nat.{eq-or-lt_of_le}
use mathlib.Core.Path.{◌≡◌, refl, subst}
use mathlib.Core.Logic.{inl, inr, ⊎_elim}
use mathlib.Core.Bool.{Bool, true, false, cond}
use mathlib.Core.List.{List, [], ◌∷◌, ◌++◌}
use lib.ListN.{length, get_or, drop, length-append}
use Rattle.scheme.specs.Scheme.{widths_of}
use Rattle.plan.specs.declared.Plan.{Plan}
use Rattle.plan.specs.Map.{base_of, opens, table_bytes, slot_of, sum_from, entry_room, room, leaf_word, pointer_word}
use Rattle.plan.specs.Writes.{Write, ◌≔◌, entry_writes, row_writes, table_writes}
use Rattle.plan.proofs.Rows.{table_of}
use Rattle.maps.specs.Tables.{Opened, entry_tables, row_tables, tables_of, child_tables, slots_of, words_in, Every, WrittenAt}

-- ---- their room

slots_append : (ts us : List Opened) → slots_of (ts ++ us) ≡ slots_of ts + slots_of us
unfolding slots_of
slots_append [] us = omega arith
slots_append (t ∷ ts) us = omega (arith, slots_append ts us)

cond_slots : (t : Bool) (kids : List Opened) (n : ℕ) → slots_of kids ≡ n → slots_of (cond t kids []) ≡ cond t n 0
unfolding slots_of
cond_slots true kids n e = e
cond_slots false kids n e = refl

row_slots : (p : Plan) (ws : List ℕ) (parent : ℕ) → ((b c : ℕ) → slots_of (tables_of p ws b c) ≡ slot_of ws + room p ws b)
    → (n i next : ℕ) → slots_of (row_tables p ws (tables_of p ws) parent n i next) ≡ sum_from (entry_room p ws (room p ws) parent) n i
unfolding row_tables sum_from slots_of
row_slots p ws parent kids zero i next = refl
row_slots p ws parent kids (suc n) i next =
    let b = base_of p ws parent i in
    let c = next - slot_of ws in
    let next' = next - entry_room p ws (room p ws) parent i in
    omega (
      arith,
      slots_append (entry_tables p ws (tables_of p ws) parent i next) (row_tables p ws (tables_of p ws) parent n (i + 1) next'),
      cond_slots (opens p ws b) (tables_of p ws b c) _ (kids b c),
      row_slots p ws parent kids n (i + 1) next',
    )

-- a table and its children take its room and theirs
tables_slots : (p : Plan) (ws : List ℕ) (parent pa : ℕ) → slots_of (tables_of p ws parent pa) ≡ slot_of ws + room p ws parent
unfolding tables_of room slots_of
tables_slots p [] parent pa = omega arith
tables_slots p (w ∷ ws) parent pa = omega (arith, row_slots p ws parent (λ b c. tables_slots p ws b c) (2 ^ w) 0 pa)

-- the child tables of the top table: what refusal 7 counts
pub children_slots : (p : Plan) (root : ℕ) → slots_of (child_tables p root) ≡ room p (widths_of p.scheme) 0
unfolding tables_of room slots_of
children_slots p root = go (widths_of p.scheme)
  where
    go : (ws : List ℕ) → slots_of (drop 1 (tables_of p ws 0 root)) ≡ room p ws 0
    go [] = refl
    go (w ∷ ws) = row_slots p ws 0 (λ b c. tables_slots p ws b c) (2 ^ w) 0 root

-- ---- their words

at_left : (a : ℕ) (vs ws : List Write) → WrittenAt a vs → WrittenAt a (vs ++ ws)
unfolding WrittenAt
at_left a [] ws h = absurd h
at_left a (v ∷ vs) ws h = ⊎_elim (λ e. inl e) (λ k. inr (at_left a vs ws k)) h

at_right : (a : ℕ) (vs ws : List Write) → WrittenAt a ws → WrittenAt a (vs ++ ws)
unfolding WrittenAt
at_right a [] ws h = h
at_right a (v ∷ vs) ws h = inr (at_right a vs ws h)

pub every_append : (P : Opened → Type 0) (ts us : List Opened) → Every P ts → Every P us → Every P (ts ++ us)
unfolding Every
every_append P [] us a b = b
every_append P (t ∷ ts) us a b = (a.0, every_append P ts us a.1 b)

pub every_map : (P Q : Opened → Type 0) → ((t : Opened) → P t → Q t) → (ts : List Opened) → Every P ts → Every Q ts
unfolding Every
every_map P Q f [] a = tt
every_map P Q f (t ∷ ts) a = (f t a.0, every_map P Q f ts a.1)

pub every_tail : (P : Opened → Type 0) (ts : List Opened) → Every P ts → Every P (drop 1 ts)
unfolding Every
every_tail P [] a = tt
every_tail P (t ∷ ts) a = a.1

pub top_table : (ws : List ℕ) → table_of ws ≤ table_bytes (get_or ws 0 0)
top_table [] = omega arith
top_table (w ∷ ws) = omega arith

-- each word of a table is written
abbrev pub Full : List Write → Opened → Type 0
Full ws t = (i : ℕ) → i < 2 ^ t.width → WrittenAt (t.pa + 4 * i) ws

entry_first : (t : Bool) (a v u : ℕ) (kids : List Write) → WrittenAt a (cond t ((a ≔ v) ∷ kids) ((a ≔ u) ∷ []))
unfolding WrittenAt
entry_first true a v u kids = inl refl
entry_first false a v u kids = inl refl

entry_full : (t : Bool) (a v u : ℕ) (kids : List Write) (ts : List Opened) → Every (Full kids) ts → Every (Full (cond t ((a ≔ v) ∷ kids) ((a ≔ u) ∷ []))) (cond t ts [])
unfolding Every WrittenAt
entry_full true a v u kids ts h = every_map (Full kids) (Full ((a ≔ v) ∷ kids)) (λ t f i l. inr (f i l)) ts h
entry_full false a v u kids ts h = tt

module _ (p : Plan) (ws : List ℕ) (parent pa : ℕ) where
  -- the words of the table itself
  row_words : (n i next k : ℕ) → i ≤ k → k < i + n → WrittenAt (pa + 4 * k) (row_writes p ws (table_writes p ws) (room p ws) parent pa n i next)
  unfolding row_writes
  row_words zero i next k lo hi = absurd (omega arith)
  row_words (suc n) i next k lo hi =
      let b = base_of p ws parent i in
      let next' = next - entry_room p ws (room p ws) parent i in
      let here = entry_writes p ws (table_writes p ws) parent pa i next in
      let rest = row_writes p ws (table_writes p ws) (room p ws) parent pa n (i + 1) next' in
      ⊎_elim
      (λ e. at_left (pa + 4 * k) here rest (subst (λ (j : ℕ). WrittenAt (pa + 4 * j) here) e (entry_first (opens p ws b) (pa + 4 * i) _ _ _)))
      (λ lt. at_right (pa + 4 * k) here rest (row_words n (i + 1) next' k (omega arith) (omega arith)))
      (eq-or-lt_of_le lo)

  -- those of its children, and theirs
  row_full : ((b c : ℕ) → Every (Full (table_writes p ws b c)) (tables_of p ws b c))
      → (n i next : ℕ) → Every (Full (row_writes p ws (table_writes p ws) (room p ws) parent pa n i next)) (row_tables p ws (tables_of p ws) parent n i next)
  unfolding row_writes row_tables Every
  row_full kids zero i next = tt
  row_full kids (suc n) i next =
      let b = base_of p ws parent i in
      let c = next - slot_of ws in
      let next' = next - entry_room p ws (room p ws) parent i in
      let here = entry_writes p ws (table_writes p ws) parent pa i next in
      let rest = row_writes p ws (table_writes p ws) (room p ws) parent pa n (i + 1) next' in
      let here-tables = entry_tables p ws (tables_of p ws) parent i next in
      let rest-tables = row_tables p ws (tables_of p ws) parent n (i + 1) next' in
      every_append (Full (here ++ rest)) here-tables rest-tables
      (every_map (Full here) (Full (here ++ rest)) (λ t f j l. at_left (t.pa + 4 * j) here rest (f j l)) here-tables
      (entry_full (opens p ws b) (pa + 4 * i) (pointer_word c) (leaf_word p ws b) (table_writes p ws b c) (tables_of p ws b c) (kids b c)))
      (every_map (Full rest) (Full (here ++ rest)) (λ t f j l. at_right (t.pa + 4 * j) here rest (f j l)) rest-tables (row_full kids n (i + 1) next'))

pub tables_full : (p : Plan) (ws : List ℕ) (parent pa : ℕ) → Every (Full (table_writes p ws parent pa)) (tables_of p ws parent pa)
unfolding table_writes tables_of Every
tables_full p [] parent pa = tt
tables_full p (w ∷ ws) parent pa = (
  (λ i h. row_words p ws parent pa (2 ^ w) 0 pa i (omega arith) (omega arith)),
  row_full p ws parent pa (λ b c. tables_full p ws b c) (2 ^ w) 0 pa,
)

-- ---- and there are no other words

words_append : (ts us : List Opened) → words_in (ts ++ us) ≡ words_in ts + words_in us
unfolding words_in
words_append [] us = omega arith
words_append (t ∷ ts) us = omega (arith, words_append ts us)

entry_count_lem : (t : Bool) (v u : Write) (kids : List Write) (ts : List Opened) → length kids ≡ words_in ts → length (cond t (v ∷ kids) (u ∷ [])) ≡ 1 + words_in (cond t ts [])
unfolding words_in
entry_count_lem true v u kids ts e = omega arith
entry_count_lem false v u kids ts e = omega arith

row_count : (p : Plan) (ws : List ℕ) (parent pa : ℕ) → ((b c : ℕ) → length (table_writes p ws b c) ≡ words_in (tables_of p ws b c))
    → (n i next : ℕ) → length (row_writes p ws (table_writes p ws) (room p ws) parent pa n i next) ≡ n + words_in (row_tables p ws (tables_of p ws) parent n i next)
unfolding row_writes row_tables words_in
row_count p ws parent pa kids zero i next = refl
row_count p ws parent pa kids (suc n) i next =
    let b = base_of p ws parent i in
    let c = next - slot_of ws in
    let next' = next - entry_room p ws (room p ws) parent i in
    let here = entry_writes p ws (table_writes p ws) parent pa i next in
    let rest = row_writes p ws (table_writes p ws) (room p ws) parent pa n (i + 1) next' in
    omega (
      arith,
      length-append here rest,
      words_append (entry_tables p ws (tables_of p ws) parent i next) (row_tables p ws (tables_of p ws) parent n (i + 1) next'),
      entry_count_lem (opens p ws b) ((pa + 4 * i) ≔ pointer_word c) ((pa + 4 * i) ≔ leaf_word p ws b) (table_writes p ws b c) (tables_of p ws b c) (kids b c),
      row_count p ws parent pa kids n (i + 1) next',
    )

pub tables_count : (p : Plan) (ws : List ℕ) (parent pa : ℕ) → length (table_writes p ws parent pa) ≡ words_in (tables_of p ws parent pa)
unfolding table_writes tables_of words_in
tables_count p [] parent pa = refl
tables_count p (w ∷ ws) parent pa = row_count p ws parent pa (λ b c. tables_count p ws b c) (2 ^ w) 0 pa
