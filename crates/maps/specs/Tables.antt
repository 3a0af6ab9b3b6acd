-- The tables that a map opens: the same way down as that of the writes, with a table's address and size in place of its words.
use Rattle.std.specs.Prelude.{ℕ, zero, suc, ◌+◌, ◌-◌, ◌^◌, cond, List, [], ◌∷◌, ◌++◌, ◌≡◌, ◌⊎◌, drop}
use Rattle.scheme.specs.Scheme.{widths_of}
use Rattle.plan.specs.declared.Plan.{Plan}
use Rattle.plan.specs.Map.{base_of, opens, slot_of, slot_bytes, entry_room, room}
use Rattle.plan.specs.Writes.{Write}

-- a table: its address, and the bits of its index
pub record Opened : Type 0 where
  pub pa : ℕ
  pub width : ℕ

abbrev pub entry_tables : Plan → List ℕ → (ℕ → ℕ → List Opened) → ℕ → ℕ → ℕ → List Opened
entry_tables p ws kids parent i next = cond (opens p ws (base_of p ws parent i)) (kids (base_of p ws parent i) (next - slot_of ws)) []

unfoldable pub row_tables : Plan → List ℕ → (ℕ → ℕ → List Opened) → ℕ → ℕ → ℕ → ℕ → List Opened
row_tables p ws kids parent zero i next = []
row_tables p ws kids parent (suc n) i next =
    entry_tables p ws kids parent i next ++ row_tables p ws kids parent n (i + 1) (next - entry_room p ws (room p ws) parent i)

-- the table at pa, then its children in the order met, depth first
unfoldable pub tables_of : Plan → List ℕ → ℕ → ℕ → List Opened
tables_of p [] parent pa = []
tables_of p (w ∷ ws) parent pa = record { pa = pa; width = w } ∷ row_tables p ws (λ b c. tables_of p ws b c) parent (2 ^ w) 0 pa

-- all tables of a map, the top one first, and the child tables
abbrev pub all_tables : Plan → ℕ → List Opened
all_tables p root = tables_of p (widths_of p.scheme) 0 root

abbrev pub child_tables : Plan → ℕ → List Opened
child_tables p root = drop 1 (all_tables p root)

-- the bytes of tables, "each rounded up to 4096"
unfoldable pub slots_of : List Opened → ℕ
slots_of [] = 0
slots_of (t ∷ ts) = slot_bytes t.width + slots_of ts

-- the number of their words
unfoldable pub words_in : List Opened → ℕ
words_in [] = 0
words_in (t ∷ ts) = 2 ^ t.width + words_in ts

-- what holds of each table
unfoldable pub Every : (Opened → Type 0) → List Opened → Type 0
Every P [] = Unit
Every P (t ∷ ts) = P t × Every P ts

-- a word is written at a
unfoldable pub WrittenAt : ℕ → List Write → Type 0
WrittenAt a [] = ⊥
WrittenAt a (w ∷ ws) = (w.at ≡ a) ⊎ WrittenAt a ws
