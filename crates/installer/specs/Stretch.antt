-- The stretches of RAM that the filling is lent: "Each child table is filled as its own stretch of RAM". Each ends with a table and has the
-- room for the table's children below it.
use Rattle.std.specs.Prelude.{ℕ, ◌+◌, ◌-◌, ◌^◌, ◌≤◌}
use Rattle.plan.specs.declared.Plan.{Plan}
use Rattle.plan.specs.Map.{table_bytes}
use Rattle.plan.specs.Levels.{width_at, entries, room_at, room_from, Good, At}
use Rattle.installer.specs.Install.{top_end}

-- the address of the table that a stretch of len bytes ends with, which begins at the address low
abbrev pub table_pa : Plan → ℕ → ℕ → ℕ → ℕ
table_pa p level low len = low + len - table_bytes (width_at p.scheme level)

-- such a stretch, with nothing written yet
pub record Room (p : Plan) (level parent low len : ℕ) : Type 0 where
  pub is_at : At p level parent
  pub space : room_at p level parent + table_bytes (width_at p.scheme level) ≤ len
  pub top : low + len ≤ 2 ^ 32

-- such a stretch, with the entries from i on still to be written and their child tables taken downward from next
pub record Stretch (p : Plan) (level parent i low next len : ℕ) : Type 0 where
  pub is_at : At p level parent
  pub part : i ≤ entries p level
  pub below_next : low + room_from p level parent i ≤ next
  pub table : next + table_bytes (width_at p.scheme level) ≤ low + len
  pub top : low + len ≤ 2 ^ 32

-- a plan whose tables have their place in a RAM of len bytes
pub record Layable (p : Plan) (root len : ℕ) : Type 0 where
  pub good : Good p
  pub fits : top_end p.scheme root ≤ len
  pub top : top_end p.scheme root ≤ 2 ^ 32
  pub space : room_at p 0 0 ≤ root
