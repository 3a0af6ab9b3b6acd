-- `store`: from the first byte up, writing what is left of the word comes to writing the word.
use Rattle.std.proofs.Common.{rules, ◌≡◌, ◌+◌, ◌-◌, ◌≤◌, ◌∙◌, sym, suc, length, arith}
use borrow.Rule.Slice.PartMut.{put_same}
use Rattle.memory.specs.Word.{put_at}
use Rattle.memory.proofs.Reading.{readable_in, length_word, stored, not_stored, store_step}
use Rattle.memory.proofs.store.Goals.{Else-not-is_readable}
use Rattle.memory.proofs.store.Goals as goal

inside : (c : Else-not-is_readable) → c.args.a + c.args.n ≤ length c.args.ram.now
inside c = readable_in _ _ _ _ (sym c.is_readable.ensures ∙ c.if-not-is_readable.false)

pub returns-then-not-is_readable : goal.returns-then-not-is_readable
returns-then-not-is_readable c =
    let e = sym c.is_readable.ensures ∙ c.if-not-is_readable.true in
    (sym e, not_stored _ _ _ _ _ e)

pub overflow_add-b-items : goal.overflow_add-b-items
overflow_add-b-items c = let h = inside (goal.at.overflow_add-b-items c).Else-not-is_readable in search rules

pub slice_bounds-b-items-end : goal.slice_bounds-b-items-end
slice_bounds-b-items-end c = let h = inside (goal.at.slice_bounds-b-items-end c).Else-not-is_readable in search rules

pub loop-b-init : goal.loop-b-init
loop-b-init c =
    let a = c.args in
    let same : a.a + a.n - a.a ≡ a.n = omega arith in
    let all : a.n - 0 ≡ a.n = omega arith in
    let first : a.a + 0 ≡ a.a = omega arith in
    rw (c.from.ensures, same, all, first, put_same a.a a.n a.ram.now)

pub loop-b-preserved : goal.loop-b-preserved
loop-b-preserved c =
    let a = c.args in
    let l = c.loop-b in
    let h = inside (goal.at.loop-b-preserved c).Else-not-is_readable in
    let more : a.n - l.b-index ≡ suc (a.n - (l.b-index + 1)) = omega (arith, length_word a.n a.a a.ram.now h) in
    store_step _ a.a l.b-index a.n l.rest a.ram.now l.b-items (omega arith) (omega arith) ∙ rw more at l.invariant

pub returns : goal.returns
unfolding put_at
returns c =
    let a = c.args in
    let l = c.loop-b in
    let e = sym c.is_readable.ensures ∙ c.if-not-is_readable.false in
    let h = inside (goal.at.returns c).Else-not-is_readable in
    let same : a.a + a.n - a.a ≡ a.n = omega arith in
    let none : a.n - l.b-index ≡ 0 = omega (arith, length_word a.n a.a a.ram.now h) in
    (sym e, rw (c.from.ensures, same) (rw none at l.invariant) ∙ stored _ _ _ _ _ e)
