-- The classes that are left leave of the slots so far what all of them leave of the first.
use Rattle.std.proofs.Common.{add-one, drop-cons, arith, rules}
use Rattle.std.proofs.lemmas.List.{drop_all}
use Rattle.entry.specs.Entry.{matches_of}
use Rattle.tlb.specs.Cache.{clear_sets, flush_page_in}
use Rattle.tlb.specs.State.{shape_of, tlb_flush_page}
use Rattle.tlb_probe.proofs.flush_page.Goals as goal

pub loop-class-preserved : goal.loop-class-preserved
unfolding clear_sets
loop-class-preserved c =
    let t = c.args.t in
    let l = c.loop-class in
    rw (
      l.invariant,
      drop-cons (shape_of t).classes l.class-index 0 (omega arith),
      add-one l.class-index,
      c.flush_slots-flushed.ensures (λ e. matches_of e c.args.vpn e.asid) (λ a b h. search rules),
      c.set_for.ensures,
      c.ways_of-ways.ensures,
    )

pub returns : goal.returns
unfolding tlb_flush_page flush_page_in clear_sets
returns c = rw (c.loop-class.invariant, drop_all c.loop-class.class-index (shape_of c.args.t).classes c.loop-class-test.false)
