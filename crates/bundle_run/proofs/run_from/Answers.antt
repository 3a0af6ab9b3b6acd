-- `bundle_run::run_from` meets its contract: the part that is lent is the bundle's RAM, and what it becomes stands in its place.
use Rattle.std.proofs.Common.{◌≡◌, ◌∙◌, length, rules}
use Rattle.bundle_run.specs.Parts.{given_ram}
use Rattle.bundle_run.proofs.Fronts.{front, between, given_length}
use Rattle.bundle_run.proofs.run_from.Goals as goal

pub returns : goal.returns
returns c =
    let xs = c.args.ram.now in
    let p = c.args.p in
    let copied : c.copy.new.to ≡ given_ram c.args.file.now p = c.copy.ensures ∙ between c.args.file.now p.ram_start p.ram_len in
    let r = c.run_mapped in
    let same : length r.new.ram ≡ length c.copy.new.to = search rules in
    let long : length r.new.ram ≡ p.ram_len = same ∙ rw copied (given_length c.requires.0) in
    let end = rw copied at r.ensures in
    (end.0, front xs r.new.ram p.ram_len long c.requires.2 ∙ rw end.1, end.2)
