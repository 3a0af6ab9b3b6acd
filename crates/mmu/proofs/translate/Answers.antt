-- `translate`: what the core requires, a fit state has.
use borrow.Author.Rules.{rules}
use Rattle.state.proofs.Fitness.{fit_ready}
use Rattle.mmu.proofs.translate.Goals as goal

pub serve-requires : goal.serve-requires
serve-requires c = fit_ready c.args.m (search rules)
