use Rattle.bits.proofs.Flags.{set_bit}
use Rattle.pte.proofs.Pte.with_a.Goals as goal

pub returns : goal.returns
returns c = set_bit 6 c.args.self.raw
