-- `Out::decimal`, which calls itself: one digit is put, or the digits before it and then the last.
use Rattle.std.proofs.Common.{sym, arith}
use Rattle.writer.proofs.Decimals.{decimal_one, decimal_more, length_one, length_more}
use Rattle.writer.proofs.Wrotes.{then, within, as_text}
use Rattle.writer.proofs.Out.+decimal.Goals as goal

pub returns-then-x-lt10 : goal.returns-then-x-lt10
returns-then-x-lt10 t c =
    let n = c.args.x in
    let h = c.if-x-lt10.true in
    within (omega (arith, length_one n h)) (as_text (sym (decimal_one n h)) c.digit.ensures)

pub returns : goal.returns
returns t c =
    let n = c.args.x in
    let h = c.if-x-lt10.false in
    within (omega (arith, length_more n h)) (as_text (sym (decimal_more n h)) (then c.decimal.ensures c.digit-2.ensures))
