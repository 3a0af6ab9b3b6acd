-- Each of document 01's proved edges: by computing the definitions, or, where RAM is part of it, by the theorems over them.
use mathlib.Core.Path.{refl}
use Rattle.scheme.specs.Refusals.{asked}
use Rattle.scheme.specs.Scheme.{total, ok_widths, bought_of, valid_of, root_pa, is_sv39, format_of}
use Rattle.entry.specs.Geometry.{pow_up, entries_for, sets_for}
use Rattle.mmu.specs.Calls.{new_of}
use Rattle.maps.proofs.Edges as maps
use Rattle.edges.proofs.CaseT as caseT
use Rattle.edges.specs.Edges.{P1, P2, P3, P4, P5, P6, P7, P8, P9, P10, P11, P12}

pub p1 : P1
unfolding valid_of bought_of ok_widths total
p1 = refl

pub p2 : P2
unfolding valid_of bought_of is_sv39 ok_widths total
p2 = refl

pub p3 : P3
unfolding valid_of bought_of ok_widths total
p3 = refl

pub p4 : P4
unfolding sets_for entries_for pow_up
p4 = (refl, refl)

pub p5 : P5
unfolding entries_for pow_up new_of
p5 = (refl, refl)

pub p6 : P6
unfolding entries_for pow_up new_of
p6 = (refl, refl)

pub p7 : P7
unfolding entries_for pow_up
p7 = refl

pub p8 : P8
p8 = (refl, refl)

pub p9 : P9
unfolding root_pa asked valid_of bought_of is_sv39 format_of ok_widths total
p9 = (refl, refl)

pub p10 : P10
p10 = caseT.p10

pub p11 : P11
p11 = maps.p11

pub p12 : P12
p12 = maps.p12
