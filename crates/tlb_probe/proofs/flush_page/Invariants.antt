-- The classes that are left leave of the slots so far what all of them leave of the first.
use Rattle.std.proofs.Common.{◌≡◌, drop, take}
use Rattle.tlb.specs.Cache.{clear_sets}
use Rattle.tlb.specs.State.{shape_of}
use Rattle.tlb_probe.proofs.flush_page.Given as goal

abbrev pub invariant-loop-class : goal.invariant-loop-class
invariant-loop-class l =
    clear_sets (shape_of l.fn.t) (shape_of l.fn.t).classes l.vpn l.fn.t.entries
    ≡ clear_sets (shape_of l.fn.t) (drop l.class-index (take l.fn.t.mask_count l.fn.t.superpage_masks)) l.vpn l.entries
