-- The filling pair: a leaf is written in its place, or a pointer, and the child's stretch is filled by one level down; a table is filled entry by entry.
use Rattle.std.proofs.Common.{ℕ, ◌+◌, ◌-◌, ◌<◌, length, sym, subst, ◌∙◌, arith}
use Rattle.plan.specs.Levels.{entries}
use Rattle.installer.proofs.Filled.{next_below, is_child, child_room, child_falls, leaf_filled, part_room, child_filled, Turn, turn_start, turn_next, turn_end}
use Rattle.installer.proofs.+fill_entry_fill_table.Goals as goal

pub fill_entry-alloc_table-c-requires : goal.fill_entry-alloc_table-c-requires
fill_entry-alloc_table-c-requires t c =
    let st = c.requires.0 in
    let o = sym c.opens_child.ensures ∙ c.if-opens_child.true in
    (is_child _ _ _ _ _ _ _ st c.requires.1 _ c.entry_base-base.ensures.0 o, child_room _ _ _ _ _ _ _ st c.requires.1 _ c.entry_base-base.ensures.0 o, omega (arith, next_below _ _ _ _ _ _ _ st))

pub fill_entry-fill_table-requires : goal.fill_entry-fill_table-requires
fill_entry-fill_table-requires t c =
    let o = sym c.opens_child.ensures ∙ c.if-opens_child.true in (
      omega (arith, child_falls _ _ _ _ _ _ _ c.requires.0 c.requires.1 _ c.entry_base-base.ensures.0 o, c.decreases),
      part_room
          _ _ _ _ _ _ _ c.requires.0 c.requires.1 _ c.entry_base-base.ensures.0 _ c.entry_at-at.ensures.0
          o _ c.alloc_table-c.ensures
          _ _ c.put_word.ensures c.pointer_word.ensures,
    )

pub fill_entry-returns-then-opens_child : goal.fill_entry-returns-then-opens_child
fill_entry-returns-then-opens_child t c =
    child_filled
    _ _ _ _ _ _ _ c.requires.0 c.requires.1 _ c.entry_base-base.ensures.0 _ c.entry_at-at.ensures.0
    (sym c.opens_child.ensures ∙ c.if-opens_child.true) _ c.alloc_table-c.ensures
    _ _ c.put_word.ensures c.pointer_word.ensures
    _ _ c.fill_table.ensures.0 c.fill_table.ensures.1

pub fill_entry-returns-else-opens_child : goal.fill_entry-returns-else-opens_child
fill_entry-returns-else-opens_child t c =
    leaf_filled
    _ _ _ _ _ _ _ c.requires.0 c.requires.1 _ c.entry_base-base.ensures.0 _ c.entry_at-at.ensures.0
    (sym c.opens_child.ensures ∙ c.if-opens_child.false) _ _ c.put_word-else-opens_child.ensures c.leaf_word.ensures

pub fill_table-loop-idx-init : goal.fill_table-loop-idx-init
fill_table-loop-idx-init t c =
    let a = c.args in
    let xs = a.ram.now in
    subst (λ (n : ℕ). Turn a.p a.level a.parent a.low xs xs (a.low + length xs - n) 0) (sym c.table_bytes.ensures.0) (turn_start _ _ _ _ xs c.requires)

pub fill_table-loop-idx-preserved : goal.fill_table-loop-idx-preserved
fill_table-loop-idx-preserved t c =
    let h : c.loop-idx.idx < entries c.args.p c.args.level = omega (arith, c.loop-idx-test.true, c.entries_at-n.ensures.0) in
    turn_next _ _ _ _ _ _ _ _ c.loop-idx.invariant h _ _ c.fill_entry-next_free.ensures.0 c.fill_entry-next_free.ensures.1

pub fill_table-returns : goal.fill_table-returns
fill_table-returns t c = turn_end _ _ _ _ _ _ _ _ c.loop-idx.invariant (omega (arith, c.entries_at-n.ensures.0))
