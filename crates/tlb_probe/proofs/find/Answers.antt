-- The classes that are left decide what all of them decide.
use Rattle.std.proofs.Common.{◌≡◌, ◌+◌, false, drop, add-one, drop-cons, arith, rules}
use Rattle.std.proofs.lemmas.List.{drop_all}
use Rattle.slots.specs.Slots.{wanted_of}
use Rattle.tlb.specs.Cache.{or_slot, find_from}
use Rattle.tlb.specs.State.{shape_of}
use Rattle.tlb_probe.proofs.find.Goals.{After-first_slot}
use Rattle.tlb_probe.proofs.find.Goals as goal

-- one class more: what was looked for decides, or the next class
stepped : (c : After-first_slot) → let a = c.args in let t = a.t.now in
    find_from (shape_of t) (shape_of t).classes a.vpn a.asid t.entries
    ≡ or_slot c.first_slot.result (find_from (shape_of t) (drop (c.loop-class.class-index + 1) (shape_of t).classes) a.vpn a.asid t.entries)
unfolding find_from
stepped c =
    let t = c.args.t.now in
    let l = c.loop-class in
    rw (
      l.invariant,
      drop-cons (shape_of t).classes l.class-index 0 (omega arith),
      add-one l.class-index,
      c.first_slot.ensures.first (wanted_of false c.args.vpn c.args.asid) (λ a b h. search rules),
      c.set_for.ensures,
      c.ways_of-ways.ensures,
    )

pub returns-in-Some-clause-first : goal.returns-in-Some-clause-first
returns-in-Some-clause-first c = rw (stepped (goal.at.returns-in-Some-clause-first c).After-first_slot, c.in-Some.is)

pub loop-class-preserved : goal.loop-class-preserved
loop-class-preserved c = rw (stepped (goal.at.loop-class-preserved c).After-first_slot, c.in_default.is)

pub returns-clause-first : goal.returns-clause-first
unfolding find_from
returns-clause-first c = rw (c.loop-class.invariant, drop_all c.loop-class.class-index (shape_of c.args.t.now).classes c.loop-class-test.false)
