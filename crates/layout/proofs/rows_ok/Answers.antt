-- `rows_ok`: while the rows pass, those that are left make the whole test (`Rows`).
use Rattle.std.proofs.Common.{sym, ◌∙◌, arith}
use Rattle.layout.proofs.Rows.{bad_row, next_row, last_row}
use Rattle.layout.proofs.rows_ok.Goals as goal

pub returns-then-not-row_ok : goal.returns-then-not-row_ok
returns-then-not-row_ok c =
    let l = c.loop-k in
    sym (bad_row c.args.file.now l.k l.start c.loop-k-test.true (sym c.row_ok.ensures ∙ c.if-not-row_ok.true)) ∙ l.invariant.1

pub loop-k-preserved : goal.loop-k-preserved
loop-k-preserved c =
    let l = c.loop-k in
    (omega arith, rw c.len_at-start.ensures.0 (sym (next_row c.args.file.now l.k l.start c.loop-k-test.true (sym c.row_ok.ensures ∙ c.if-not-row_ok.false)) ∙ l.invariant.1))

pub returns : goal.returns
returns c = sym (last_row c.args.file.now c.loop-k.k c.loop-k.start c.loop-k-test.false) ∙ c.loop-k.invariant.1
