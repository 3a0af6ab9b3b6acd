-- `make_satp39`: Sv39's format.
use Rattle.scheme.specs.Scheme.{is_sv39, format_of}
use Rattle.scheme.proofs.satp.make_satp39.Goals as goal

pub returns : goal.returns
unfolding is_sv39 format_of
returns c = rw c.sv39.ensures at c.on_for.ensures
