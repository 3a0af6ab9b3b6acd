-- `flush_vaddr`: what the core requires, a fit state has.
use borrow.Author.Rules.{rules}
use Rattle.state.proofs.Fitness.{fit_ready}
use Rattle.mmu.proofs.flush_vaddr.Goals as goal

pub flush_vaddr-requires-clause-geo : goal.flush_vaddr-requires-clause-geo
flush_vaddr-requires-clause-geo c = (fit_ready c.args.m (search rules)).geo

pub flush_vaddr-requires-clause-mask_count_bound : goal.flush_vaddr-requires-clause-mask_count_bound
flush_vaddr-requires-clause-mask_count_bound c = (fit_ready c.args.m (search rules)).few
