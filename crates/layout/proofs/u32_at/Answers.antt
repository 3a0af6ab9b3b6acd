-- `u32_at`: the bytes are those at the place.
use Rattle.std.proofs.Common.{◌∙◌}
use Rattle.layout.proofs.Words.{four}
use Rattle.layout.proofs.u32_at.Goals as goal

pub returns : goal.returns
returns c = c.from_le_bytes.ensures ∙ rw c.bytes_at.ensures (four c.args.file.now c.args.at)
