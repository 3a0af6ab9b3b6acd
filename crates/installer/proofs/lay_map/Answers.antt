-- `lay_map`: what is written in the part that ends with the top table is written in RAM.
use Prim.Native.Nat.{ℕ, ◌+◌}
use mathlib.Core.Path.{◌≡◌, ap}
use Rattle.installer.specs.Install.{top_end}
use Rattle.installer.proofs.Install.{at_root, root_room, root_filled}
use Rattle.installer.proofs.lay_map.Goals.{After-table_bytes}
use Rattle.installer.proofs.lay_map.Goals as goal

pub table_bytes-requires : goal.table_bytes-requires
table_bytes-requires c =
    let g = c.requires.good in
    (g.fit, (at_root _ g).inside)

stop_is : (c : After-table_bytes) → c.args.root_pa + c.table_bytes.result ≡ top_end c.args.p.scheme c.args.root_pa
stop_is c = ap (λ (n : ℕ). c.args.root_pa + n) c.table_bytes.ensures.0

pub fill_table-requires : goal.fill_table-requires
fill_table-requires c = root_room _ _ _ _ c.requires (stop_is (goal.at.fill_table-requires c).After-table_bytes)

pub returns : goal.returns
returns c = root_filled _ _ _ _ c.requires (stop_is (goal.at.returns c).After-table_bytes) _ c.fill_table.ensures.0
