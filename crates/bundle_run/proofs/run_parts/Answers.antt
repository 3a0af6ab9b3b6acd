-- `bundle_run::run_parts` meets its contract: by what was said of the layout and the settings.
use mathlib.Core.Path.{sym, ap, ◌∙◌}
use native.Mathlib.Omega.{arith}
use lib.Seq.{sets}
use Rattle.writer.proofs.Wrotes.{within, as_text}
use Rattle.bundle_run.specs.Parts.{parts_text, parts_end, parts_mmu}
use Rattle.bundle_run.proofs.Picks.{end_refused, end_granted, text_refused, text_granted, room_refused, room_granted}
use Rattle.bundle_run.proofs.run_parts.Goals as goal

pub put_refused-requires : goal.put_refused-requires
put_refused-requires c =
    omega (arith, room_refused c.in-Err.is c.args.p.count, c.requires.1)

pub run_from-requires : goal.run_from-requires
run_from-requires c =
    (c.requires.0, omega (arith, room_granted c.in-Ok.is c.args.p.count, c.requires.1), c.requires.2)

pub returns-in-Err : goal.returns-in-Err
unfolding parts_text parts_end parts_mmu
returns-in-Err c =
    let e = c.in-Err.is in (
      sym (end_refused e _ _),
      ap (sets _ 0) (sym (end_refused e _ _)),
      as_text (sym (text_refused e _)) (within (omega (arith, room_refused e c.args.p.count)) c.put_refused.ensures),
    )

pub returns-in-Ok : goal.returns-in-Ok
unfolding parts_text parts_end parts_mmu
returns-in-Ok c =
    let e = c.in-Ok.is in
    let r = c.run_from.ensures in
    (r.0 ∙ sym (end_granted e _ _), r.1 ∙ ap (sets _ 0) (sym (end_granted e _ _)), as_text (sym (text_granted e _)) (within (omega (arith, room_granted e c.args.p.count)) r.2))
