-- `flush`: what the core requires, a fit state has.
use borrow.Author.Rules.{rules}
use Rattle.state.proofs.Fitness.{fit_ready}
use Rattle.mmu.proofs.flush.Goals as goal

pub flush-n-requires : goal.flush-n-requires
flush-n-requires c = (fit_ready c.args.m (search rules)).geo
