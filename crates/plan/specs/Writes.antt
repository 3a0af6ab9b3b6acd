-- What is written for a map: a list of words with their addresses, a function of the plan alone. RAM is then the old RAM with the list
-- written, so bytes outside the tables need no mention.
use Rattle.std.specs.Prelude.{ℕ, zero, suc, ◌+◌, ◌-◌, ◌*◌, ◌^◌, cond, List, [], ◌∷◌, ◌++◌}
use Rattle.memory.specs.Word.{put_at}
use Rattle.scheme.specs.Scheme.{widths_of}
use Rattle.plan.specs.declared.Plan.{Plan}
use Rattle.plan.specs.Map.{base_of, opens, slot_of, entry_room, room, leaf_word, pointer_word}

-- a word and the address that it is written to
pub record Write : Type 0 where
  pub at : ℕ
  pub word : ℕ

infixl 20 ◌≔◌
abbrev pub ◌≔◌ : ℕ → ℕ → Write
a ≔ w = record { at = a; word = w }

-- entry i of the table at pa: a leaf, or a pointer to a child table that is taken downward from `next`; `kids b c` fills a child at c
abbrev pub entry_writes : Plan → List ℕ → (ℕ → ℕ → List Write) → ℕ → ℕ → ℕ → ℕ → List Write
entry_writes p ws kids parent pa i next =
    cond (opens p ws (base_of p ws parent i))
    (((pa + 4 * i) ≔ pointer_word (next - slot_of ws)) ∷ kids (base_of p ws parent i) (next - slot_of ws))
    (((pa + 4 * i) ≔ leaf_word p ws (base_of p ws parent i)) ∷ [])

-- n entries from i on: "Children are taken downward from the root in the order met, depth first"
unfoldable pub row_writes : Plan → List ℕ → (ℕ → ℕ → List Write) → (ℕ → ℕ) → ℕ → ℕ → ℕ → ℕ → ℕ → List Write
row_writes p ws kids below parent pa zero i next = []
row_writes p ws kids below parent pa (suc n) i next =
    entry_writes p ws kids parent pa i next
    ++ row_writes p ws kids below parent pa n (i + 1) (next - entry_room p ws below parent i)

-- the table at pa and all below it: "Every word of each table is written". Its children are taken downward from pa
unfoldable pub table_writes : Plan → List ℕ → ℕ → ℕ → List Write
table_writes p [] parent pa = []
table_writes p (w ∷ ws) parent pa =
    row_writes p ws (λ b c. table_writes p ws b c) (λ b. room p ws b) parent pa (2 ^ w) 0 pa

-- all words that are written for a map whose top table is at root
abbrev pub all_writes : Plan → ℕ → List Write
all_writes p root = table_writes p (widths_of p.scheme) 0 root

-- the writes, done in order to a stretch of RAM whose first byte has the address low
unfoldable pub written : ℕ → List Write → List ℕ → List ℕ
written low [] ram = ram
written low (w ∷ ws) ram = written low ws (put_at 4 ram (w.at - low) w.word)
