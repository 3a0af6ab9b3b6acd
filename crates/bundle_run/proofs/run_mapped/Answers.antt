-- `bundle_run::run_mapped` meets its contract: by what the installer said.
use Rattle.std.proofs.Common.{sym, ◌∙◌, arith}
use Rattle.writer.proofs.Wrotes.{within, as_text}
use Rattle.bundle_run.specs.Parts.{map_text, map_end, map_mmu}
use Rattle.bundle_run.proofs.Picks.{end_refused, end_granted, text_refused, text_granted, refused_map}
use Rattle.bundle_run.proofs.run_mapped.Goals as goal

pub returns-in-Err : goal.returns-in-Err
unfolding map_text map_end map_mmu
returns-in-Err c =
    let i = c.install.ensures in
    let e = sym i.0 ∙ c.in-Err.is in (
      sym (end_refused e _ _),
      i.1 ∙ refused_map _ _ _ e ∙ sym (end_refused e _ _),
      as_text (sym (text_refused e _)) (within (omega arith) c.put_refused.ensures),
    )

pub returns-in-Ok : goal.returns-in-Ok
unfolding map_text map_end map_mmu
returns-in-Ok c =
    let i = c.install.ensures in
    let e = sym i.0 ∙ c.in-Ok.is in
    let r = rw i.1 at c.run_all.ensures in
    (r.0 ∙ sym (end_granted e _ _), r.1 ∙ sym (end_granted e _ _), as_text (sym (text_granted e _)) r.2)
