-- What a map says of each entry: where its range begins, whether it opens a child table, what room the children take, and its word.
-- `ws` are the widths of the levels below the entry's, as in the descent.
use Rattle.std.specs.Prelude.{ℕ, zero, suc, ◌+◌, ◌*◌, ◌/◌, ◌%◌, ◌^◌, Bool, true, false, ◌&&◌, cond, List, [], ◌∷◌, ltb}
use Rattle.pte.specs.declared.PtePerms.{PtePerms}
use Rattle.scheme.specs.Map.{delta_of}
use Rattle.scheme.specs.Scheme.{total, round_up}
use Rattle.scheme.specs.declared.PagingScheme.{PagingScheme}
use Rattle.plan.specs.declared.MapRule.{MapRule}
use Rattle.plan.specs.declared.MapRule.TheVariants.{Relative, Absolute}
use Rattle.plan.specs.declared.PageMapSpec.{PageMapSpec}
use Rattle.plan.specs.declared.Plan.{Plan}
use Rattle.plan.specs.declared.Window.{Window}

-- ---- the plan of a map

-- what a flag adds to a word, by its place: "PTE bits 0-7 are V R W X U G A D"
abbrev pub flag : ℕ → Bool → ℕ
flag n b = cond b (2 ^ n) 0

-- "Flags: V, R, W, X, U, G": V is always set
unfoldable pub flags_of : PtePerms → Bool → ℕ
flags_of p global = 1 + flag 1 p.r + flag 2 p.w + flag 3 p.x + flag 4 p.u + flag 5 global

unfoldable pub plan_of : PagingScheme → PageMapSpec → Window → Plan
plan_of s m win =
    record { scheme = s; window = win; delta = delta_of m.kind; flags = flags_of m.perms m.global; rule = m.rule }

-- ---- an entry's range

-- the bits of an address below an entry's index
abbrev pub shift : Plan → List ℕ → ℕ
shift p ws = p.scheme.offset_bits + total ws

-- "Relative, as bought: index << shift, and nothing of the parents. Absolute, added: the parent's base plus that"
abbrev pub inherited : MapRule → ℕ → ℕ
inherited Relative parent = 0
inherited Absolute parent = parent

-- where the range of entry i begins, in a table whose own range begins at `parent`
abbrev pub base_of : Plan → List ℕ → ℕ → ℕ → ℕ
base_of p ws parent i = inherited p.rule parent + i * 2 ^ shift p ws

abbrev pub has_level : List ℕ → Bool
has_level [] = false
has_level (w ∷ ws) = true

-- "An entry opens a child table when it is not at the last level and its span meets the window [start, end); an empty window
-- (end not above start) opens none"
unfoldable pub opens : Plan → List ℕ → ℕ → Bool
opens p ws base =
    has_level ws
    && (ltb p.window.start p.window.end
    && (ltb p.window.start (base + 2 ^ shift p ws) && ltb base p.window.end))

-- ---- the room of child tables

-- the bytes of a table whose index has w bits, and of the room that it takes as a child: "each rounded up to 4096"
abbrev pub table_bytes : ℕ → ℕ
table_bytes w = 4 * 2 ^ w

abbrev pub slot_bytes : ℕ → ℕ
slot_bytes w = round_up (table_bytes w)

-- the room of the table at the top of the levels ws
abbrev pub slot_of : List ℕ → ℕ
slot_of [] = 0
slot_of (w ∷ ws) = slot_bytes w

-- f i + f (i + 1) + ..: n of them
unfoldable pub sum_from : (ℕ → ℕ) → ℕ → ℕ → ℕ
sum_from f zero i = 0
sum_from f (suc n) i = f i + sum_from f n (i + 1)

-- the room of an entry's child table and of all below it; `below` gives that below a table
abbrev pub entry_room : Plan → List ℕ → (ℕ → ℕ) → ℕ → ℕ → ℕ
entry_room p ws below parent i =
    cond (opens p ws (base_of p ws parent i)) (slot_of ws + below (base_of p ws parent i)) 0

-- the room of a table's children, and of theirs
unfoldable pub room : Plan → List ℕ → ℕ → ℕ
room p [] parent = 0
room p (w ∷ ws) parent = sum_from (entry_room p ws (λ b. room p ws b) parent) (2 ^ w) 0

-- ---- the words

-- "A leaf's frame is its base plus delta, cut down to the leaf's page size", the sum mod 2^32
abbrev pub frame_of : Plan → List ℕ → ℕ → ℕ
frame_of p ws base = (base + p.delta) % 2 ^ 32 / 2 ^ shift p ws * 2 ^ shift p ws

-- "the PPN is bits 31-10", and the flags stand below it
abbrev pub leaf_word : Plan → List ℕ → ℕ → ℕ
leaf_word p ws base = frame_of p ws base / 4096 * 1024 + p.flags

-- a pointer has V alone
abbrev pub pointer_word : ℕ → ℕ
pointer_word child = child / 4096 * 1024 + 1
