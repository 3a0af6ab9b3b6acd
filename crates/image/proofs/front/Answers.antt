-- `front`: the bytes one by one; there are four widths.
use Rattle.std.proofs.Common.{◌≡◌, length, rules}
use Rattle.image.proofs.Words.{four}
use Rattle.image.proofs.front.Goals as goal

pub returns : goal.returns
returns c =
    let long : length c.args.s.level_bits ≡ 4 = search rules in
    rw (four c.args.s.level_bits long, c.policy_number.ensures)
