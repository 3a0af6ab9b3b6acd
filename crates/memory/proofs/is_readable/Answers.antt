-- `is_readable`: the tests of the definition, in its order.
use Rattle.std.proofs.Common.{rules, arith, ◌≡◌, ◌+◌, ◌^◌, ◌<◌, length}
use borrow.Author.Tests.{lt-ltb, lt-leb}
use Rattle.memory.proofs.Reading.{past, within, always}
use Rattle.memory.proofs.is_readable.Goals as goal

pub returns-in_default : goal.returns-in_default
returns-in_default c =
    let l : length c.args.ram.now < 2 ^ 64 = search rules in
    past _ _ _ _ (omega (arith, c.in_default.ensures))

pub returns-then-bits-gt63 : goal.returns-then-bits-gt63
returns-then-bits-gt63 c =
    rw (lt-ltb 63 c.args.bits c.if-bits-gt63.true) (always _ _ _ _ (omega (arith, c.in-Some.ensures)) c.if-bits-gt63.true (search rules))

pub returns-else-bits-gt63 : goal.returns-else-bits-gt63
returns-else-bits-gt63 c =
    let e : c.in-Some.end ≡ c.args.a + c.args.n = search rules in
    rw e (within _ _ _ _ (omega arith) (omega arith))

pub returns-else-end-ram : goal.returns-else-end-ram
returns-else-end-ram c =
    rw (lt-leb c.in-Some.end (length c.args.ram.now) (omega arith)) (past _ _ _ _ (omega (arith, c.in-Some.ensures)))
