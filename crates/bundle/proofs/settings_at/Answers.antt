-- `settings_at`: each switch by its mask.
use Rattle.bits.proofs.Flags.{test_bit}
use Rattle.bundle.proofs.settings_at.Goals as goal

pub returns : goal.returns
returns c = rw (c.scheme_at-scheme.ensures, c.from-satp.ensures, c.u32_at.ensures, test_bit 0, test_bit 1, test_bit 2)
