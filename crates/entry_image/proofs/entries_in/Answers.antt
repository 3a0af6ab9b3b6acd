-- `entries_in`: the entry at each number is read at its place (`Entries`).
use Rattle.std.proofs.Common.{sym, arith, rules}
use Rattle.entry_image.proofs.Entries.{all_read}
use Rattle.entry_image.proofs.entries_in.Goals as goal

pub returns : goal.returns
returns c =
    let a = c.args in
    let items = c.from_fn.ensures.items in
    all_read _ _ a.s.now a.at (λ i e q k. search rules) c.from_fn.result 0 128 a.at (omega arith) (sym items.long) items.each
