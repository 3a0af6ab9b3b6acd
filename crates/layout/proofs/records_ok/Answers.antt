-- `records_ok`: the records passed and those that are left make the whole test (`Records`).
use Rattle.std.proofs.Common.{◌≡◌, ◌∙◌, ◌+◌, ◌*◌, ◌-◌, arith}
use Rattle.layout.proofs.Records.{next_record, last_record}
use Rattle.layout.proofs.records_ok.Goals as goal

pub loop-i-preserved : goal.loop-i-preserved
loop-i-preserved c =
    let a = c.args in
    let l = c.loop-i in
    let p : a.at + 8 * (l.i + 1) ≡ a.at + 8 * l.i + 8 = omega arith in
    let left : a.n - (l.i + 1) ≡ a.n - l.i - 1 = omega arith in
    rw (c.record_ok-ok.ensures, p, left) (next_record a.file.now (a.at + 8 * l.i) (a.n - l.i) l.ok (omega (arith, c.loop-i-test.true)) ∙ l.invariant)

pub returns : goal.returns
returns c =
    let a = c.args in
    let l = c.loop-i in
    last_record a.file.now (a.at + 8 * l.i) (a.n - l.i) l.ok (omega (arith, c.loop-i-test.false)) ∙ l.invariant
