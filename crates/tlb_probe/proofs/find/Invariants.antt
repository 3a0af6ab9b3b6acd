-- The classes that are left decide what all of them decide.
use Rattle.std.proofs.Common.{◌≡◌, drop, take}
use Rattle.tlb.specs.Cache.{find_from}
use Rattle.tlb.specs.State.{shape_of}
use Rattle.tlb_probe.proofs.find.Given as goal

abbrev pub invariant-loop-class : goal.invariant-loop-class
invariant-loop-class l =
    find_from (shape_of l.t) (shape_of l.t).classes l.vpn l.asid l.t.entries
    ≡ find_from (shape_of l.t) (drop l.class-index (take l.t.mask_count l.t.superpage_masks)) l.vpn l.asid l.t.entries
