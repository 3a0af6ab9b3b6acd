-- The map's definitions by a level's number, the top one 0, as the code has it; and what holds where the code stands.
use Rattle.std.specs.Prelude.{ℕ, ◌+◌, ◌-◌, ◌^◌, ◌≤◌, ◌<◌, ◌≡◌, Bool, true, List, length, get_or, drop}
use Rattle.scheme.specs.Scheme.{total, widths_of, bought_of}
use Rattle.scheme.specs.declared.PagingScheme.{PagingScheme}
use Rattle.plan.specs.declared.Plan.{Plan}
use Rattle.plan.specs.declared.Place.{Place}
use Rattle.plan.specs.Map.{base_of, opens, table_bytes, slot_bytes, sum_from, entry_room, room, leaf_word}
use Rattle.plan.specs.Writes.{Write, entry_writes, row_writes, table_writes}

-- a level's width
abbrev pub width_at : PagingScheme → ℕ → ℕ
width_at s l = get_or (widths_of s) l 0

-- the widths of a level and those below it
abbrev pub from : PagingScheme → ℕ → List ℕ
from s l = drop l (widths_of s)

-- the widths below a level
abbrev pub below : Plan → ℕ → List ℕ
below p l = from p.scheme (l + 1)

abbrev pub entries : Plan → ℕ → ℕ
entries p l = 2 ^ width_at p.scheme l

unfoldable pub base_at : Plan → ℕ → ℕ → ℕ → ℕ
base_at p l parent i = base_of p (below p l) parent i

unfoldable pub opens_at : Plan → ℕ → ℕ → Bool
opens_at p l base = opens p (below p l) base

unfoldable pub room_at : Plan → ℕ → ℕ → ℕ
room_at p l parent = room p (from p.scheme l) parent

unfoldable pub entry_room_at : Plan → ℕ → ℕ → ℕ → ℕ
entry_room_at p l parent i = entry_room p (below p l) (room p (below p l)) parent i

-- the room of the entries from i on
unfoldable pub room_from : Plan → ℕ → ℕ → ℕ → ℕ
room_from p l parent i = sum_from (entry_room_at p l parent) (entries p l - i) i

unfoldable pub leaf_at : Plan → ℕ → ℕ → ℕ
leaf_at p l base = leaf_word p (below p l) base

unfoldable pub table_at : Plan → ℕ → ℕ → ℕ → List Write
table_at p l parent pa = table_writes p (from p.scheme l) parent pa

unfoldable pub entry_at : Plan → ℕ → ℕ → ℕ → ℕ → ℕ → List Write
entry_at p l parent pa i next = entry_writes p (below p l) (table_writes p (below p l)) parent pa i next

-- the writes of the entries from i on
unfoldable pub row_from : Plan → ℕ → ℕ → ℕ → ℕ → ℕ → List Write
row_from p l parent pa i next =
    row_writes p (below p l) (table_writes p (below p l)) (room p (below p l)) parent pa (entries p l - i) i next

-- a scheme of document 01, in an array of four widths
pub record Fit (s : PagingScheme) : Type 0 where
  pub array : length s.level_bits ≡ 4
  pub valid : bought_of s ≡ true

-- a plan over such a scheme, with the flags' six bits
pub record Good (p : Plan) : Type 0 where
  pub fit : Fit p.scheme
  pub flags6 : p.flags < 64

-- a table at a level whose range begins at `parent`: the level exists, and the range lies in the 32 bits
pub record At (p : Plan) (level parent : ℕ) : Type 0 where
  pub good : Good p
  pub inside : level < p.scheme.levels
  pub range : parent + 2 ^ (p.scheme.offset_bits + total (from p.scheme level)) ≤ 2 ^ 32

-- an entry of such a table
pub record Entry (p : Plan) (level parent i : ℕ) : Type 0 where
  pub is_at : At p level parent
  pub listed : i < entries p level

-- where a child table of a level goes that is taken downward from `next`, and which part of a stretch of RAM that begins at the
-- address low is its own: the room below it, and the table at its end
pub record Placed (p : Plan) (level parent low next : ℕ) (c : Place) : Type 0 where
  pub pa_is : c.pa + slot_bytes (width_at p.scheme level) ≡ next
  pub start_is : low + c.start + room_at p level parent ≡ c.pa
  pub stop_is : low + c.stop ≡ c.pa + table_bytes (width_at p.scheme level)
