-- `install_map_scheme`: a refusal leaves RAM, and a grant has it laid.
use Rattle.std.proofs.Common.{rules, ◌≡◌, sym, ◌∙◌, Err}
use Rattle.plan.specs.Levels.{Fit}
use Rattle.installer.proofs.Install.{granted, may_lay, laid, not_laid}
use Rattle.installer.proofs.install_map_scheme.Goals as goal

pub returns-in_err-first_refusal : goal.returns-in_err-first_refusal
returns-in_err-first_refusal c =
    let e = sym c.first_refusal.ensures ∙ c.in_err-first_refusal.was in
    let r : c.from_residual.result ≡ Err (c.in_err-first_refusal.field-0.0) = search rules in
    (r ∙ sym e, sym (not_laid _ _ _ _ _ _ e))

pub lay_map-requires : goal.lay_map-requires
lay_map-requires c =
    let e = sym c.first_refusal.ensures ∙ c.in_ok-first_refusal.was in
    let f : Fit c.args.scheme = record { array = search rules; valid = (granted _ _ _ _ _ e).0.valid } in
    rw c.plan_of.ensures (may_lay _ _ _ _ _ f e)

pub returns : goal.returns
returns c =
    let e = sym c.first_refusal.ensures ∙ c.in_ok-first_refusal.was in
    (sym e, rw (c.lay_map.ensures, c.plan_of.ensures) (sym (laid _ _ _ _ _ e)))
