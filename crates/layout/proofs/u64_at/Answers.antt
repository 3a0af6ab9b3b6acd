-- `u64_at`: the bytes are those at the place.
use Rattle.std.proofs.Common.{◌∙◌}
use Rattle.layout.proofs.Words.{eight}
use Rattle.layout.proofs.u64_at.Goals as goal

pub returns : goal.returns
returns c = c.from_le_bytes.ensures ∙ rw c.bytes_at.ensures (eight c.args.file.now c.args.at)
