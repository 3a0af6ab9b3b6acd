-- `serve`: what the probe leaves is what the core needs.
use Rattle.serve.proofs.Serving.{probe_ready}
use Rattle.serve.proofs.serve.Goals as goal

pub miss-requires : goal.miss-requires
miss-requires c = probe_ready _ _ _ c.consult-seen.ensures c.requires
