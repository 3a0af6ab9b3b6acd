-- `run::run_kept` meets its contract: a layout that is refused is told, and what was read is run, unless a buffer is too short.
use Rattle.std.proofs.Common.{◌≡◌, ◌≤◌, length, sym, ap, ◌∙◌, arith, rules, Ok, Err}
use Rattle.bundle.specs.Parts.{read_of}
use Rattle.run.specs.Run.{of_read}
use Rattle.writer.proofs.Wrotes.{at_slice}
use Rattle.run.proofs.Laws.{within_read, enough, text_end, text_within, no_text}
use borrow.Author.Tests.{lt-ltb, le-ltb}
use Rattle.run.proofs.run_kept.Goals.{Else-out-need}
use Rattle.run.proofs.run_kept.Goals as goal

pub returns-then-out-lt11 : goal.returns-then-out-lt11
unfolding of_read
returns-then-out-lt11 c =
    let e : read_of c.args.file.now ≡ Err c.in-Err.why = sym c.read.ensures ∙ c.in-Err.is in
    let t = lt-ltb _ _ c.if-out-lt11.true in
    (rw (e, t), rw (e, t, c.refused.ensures), rw (e, t), rw (e, t), λ n h. no_text h)

pub returns-else-out-lt11 : goal.returns-else-out-lt11
unfolding of_read
returns-else-out-lt11 c =
    let e : read_of c.args.file.now ≡ Err c.in-Err.why = sym c.read.ensures ∙ c.in-Err.is in
    let t = le-ltb _ _ c.if-out-lt11.false in
    let q = at_slice c.put_refused.ensures (search rules) (search rules) (search rules) (search rules) in
    (rw (e, t) (ap Ok (text_end q)), rw (e, t, c.refused.ensures), rw (e, t) q.bytes, rw (e, t), λ n h. text_within q c.if-out-lt11.false h)

pub room-need-requires : goal.room-need-requires
room-need-requires c = (within_read (sym c.read.ensures ∙ c.in-Ok.is)).few

pub returns-then-out-need : goal.returns-then-out-need
unfolding of_read
returns-then-out-need c =
    let e : read_of c.args.file.now ≡ Ok c.in-Ok.p = sym c.read.ensures ∙ c.in-Ok.is in
    let t = rw (c.room-need.ensures, c.set_up-start.ensures.0) at c.if-out-need.true in
    (rw (e, t), rw (e, t) c.set_up-start.ensures.1, rw (e, t), rw (e, t), λ n h. no_text h)

-- the buffers are long enough
long : (c : Else-out-need) → (c.room-need.result ≤ length c.args.out.now) × (c.in-Ok.p.ram_len ≤ length c.args.ram.now)
long c = enough _ _ _ _ c.if-out-need.false

pub run_parts-mmu-requires : goal.run_parts-mmu-requires
run_parts-mmu-requires c =
    let fits = long (goal.at.run_parts-mmu-requires c).Else-out-need in
    let n = c.new-lines.ensures in
    (within_read (sym c.read.ensures ∙ c.in-Ok.is), rw (n.buf, n.at) (omega (arith, fits.0, c.room-need.ensures)), fits.1)

pub returns-else-out-need : goal.returns-else-out-need
unfolding of_read
returns-else-out-need c =
    let e : read_of c.args.file.now ≡ Ok c.in-Ok.p = sym c.read.ensures ∙ c.in-Ok.is in
    let t = rw (c.room-need.ensures, c.set_up-start.ensures.0) at c.if-out-need.false in
    let r = rw (c.set_up-start.ensures.0, c.set_up-start.ensures.1) at c.run_parts-mmu.ensures in
    let q = at_slice r.2 (search rules) (search rules) (search rules) (search rules) in (
      rw (e, t) (ap Ok (text_end q)),
      rw (e, t) r.0,
      rw (e, t) q.bytes,
      rw (e, t) r.1,
      λ n h. text_within {old = c.args.out.now} q (rw (← c.set_up-start.ensures.0) (omega (arith, (long (goal.at.returns-else-out-need c).Else-out-need).0, c.room-need.ensures))) h,
    )
