-- The counting pair: an entry's room is that of the child table which it opens, and a table's that of its entries.
use Rattle.std.proofs.Common.{◌≡◌, ℕ, ◌+◌, true, sym, ap, subst, ◌∙◌, arith}
use Rattle.plan.specs.declared.Plan.{Plan}
use Rattle.plan.specs.Levels.{At, Entry, base_at, opens_at, room_at}
use Rattle.plan.proofs.Laws.{child_at}
use Rattle.plan.proofs.Rooms.{room_fits, room_start, room_step, room_end, room_open, room_shut}
use Rattle.plan.proofs.+entry_room_room_below.Goals as goal

-- the child table, at the entry's base
child : (p : Plan) (level parent idx base : ℕ) → Entry p level parent idx → base ≡ base_at p level parent idx → opens_at p level base ≡ true → At p (level + 1) base
child p level parent idx base r e o = subst (At p (level + 1)) (sym e) (child_at p level parent idx r (sym (ap (opens_at p level) e) ∙ o))

pub entry_room-slot_bytes-requires : goal.entry_room-slot_bytes-requires
entry_room-slot_bytes-requires t c =
    let g = child _ _ _ _ _ c.requires c.entry_base-base.ensures.0 (sym c.opens_child.ensures ∙ c.if-opens_child.true) in
    (g.good.fit, g.inside)

pub entry_room-room_below-requires : goal.entry_room-room_below-requires
entry_room-room_below-requires t c =
    let g = child _ _ _ _ _ c.requires c.entry_base-base.ensures.0 (sym c.opens_child.ensures ∙ c.if-opens_child.true) in
    (omega (arith, g.inside, c.decreases), g)

pub entry_room-overflow_add-result : goal.entry_room-overflow_add-result
entry_room-overflow_add-result t c = omega (arith, room_fits c.args.p (c.args.level + 1) c.entry_base-base.result c.requires.is_at.good.fit)

pub entry_room-returns-then-opens_child : goal.entry_room-returns-then-opens_child
entry_room-returns-then-opens_child t c =
    let a = c.args in
    let b : c.entry_base-base.result ≡ base_at a.p a.level a.parent a.idx = c.entry_base-base.ensures.0 in
    let o = sym (ap (opens_at a.p a.level) b) ∙ sym c.opens_child.ensures ∙ c.if-opens_child.true in
    omega (arith, room_open a.p a.level a.parent a.idx c.requires o, c.room_below.ensures, ap (room_at a.p (a.level + 1)) b)

pub entry_room-returns-else-opens_child : goal.entry_room-returns-else-opens_child
entry_room-returns-else-opens_child t c =
    let a = c.args in
    let b : c.entry_base-base.result ≡ base_at a.p a.level a.parent a.idx = c.entry_base-base.ensures.0 in
    sym (room_shut _ _ _ _ (sym (ap (opens_at a.p a.level) b) ∙ sym c.opens_child.ensures ∙ c.if-opens_child.false))

pub room_below-loop-idx-init : goal.room_below-loop-idx-init
room_below-loop-idx-init t c =
    let a = c.args in
    omega (arith, room_start a.p a.level a.parent c.requires.good.fit c.requires.inside)

pub room_below-overflow_add-sum : goal.room_below-overflow_add-sum
room_below-overflow_add-sum t c =
    let a = c.args in
    omega (arith, room_step a.p a.level a.parent c.loop-idx.idx (omega arith), room_fits a.p a.level a.parent c.requires.good.fit)

pub room_below-loop-idx-preserved : goal.room_below-loop-idx-preserved
room_below-loop-idx-preserved t c =
    let a = c.args in
    omega (arith, room_step a.p a.level a.parent c.loop-idx.idx (omega arith))

pub room_below-returns : goal.room_below-returns
room_below-returns t c =
    let a = c.args in
    omega (arith, room_end a.p a.level a.parent c.loop-idx.idx (omega arith))
