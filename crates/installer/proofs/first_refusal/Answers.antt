-- `first_refusal`: past the first test the scheme is valid.
use Rattle.std.proofs.Common.{rules, tests}
use Rattle.plan.specs.Levels.{Fit}
use Rattle.plan.proofs.Laws as plan
use Rattle.installer.proofs.Install.{plan_good, at_root}
use Rattle.installer.proofs.first_refusal.Goals.{Else-not-is_bought}
use Rattle.installer.proofs.first_refusal.Goals as goal

fit : (c : Else-not-is_bought) → Fit c.args.scheme
fit c = record { array = search rules; valid = search (rules, tests) }

pub table_bytes-requires : goal.table_bytes-requires
table_bytes-requires c =
    let f = fit (goal.at.table_bytes-requires c).Else-not-is_bought in
    (f, (plan.is_valid _ f).some)

pub room_below-requires : goal.room_below-requires
room_below-requires c =
    rw c.plan_of-p.ensures (at_root _ (plan_good _ _ _ (fit (goal.at.room_below-requires c).Else-not-is_bought)))
