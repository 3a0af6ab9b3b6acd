-- `make_satp`: Sv32's format, whose words have 32 bits.
use Rattle.std.proofs.Common.{◌≡◌, arith}
use Rattle.scheme.specs.Scheme.{sv32, is_sv39, format_of}
use Rattle.scheme.specs.Satp.{satp_in}
use Rattle.scheme.proofs.satp.make_satp.Goals.{After-on_for}
use Rattle.scheme.proofs.satp.make_satp.Goals as goal

said : (c : After-on_for) → c.on_for.result ≡ satp_in sv32 c.args.root_pa c.args.asid
unfolding is_sv39 format_of
said c = rw (c.sv32.ensures, c.from.ensures) at c.on_for.ensures

pub overflow_cast-result : goal.overflow_cast-result
unfolding satp_in
overflow_cast-result c = rw (said c) record { fits = omega arith }

pub returns : goal.returns
returns c = said c
