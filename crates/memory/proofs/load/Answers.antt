-- `load`: the bytes of a readable word lie in RAM, and their fold is the word.
use Rattle.std.proofs.Common.{rules, ◌≡◌, ◌+◌, ◌-◌, ◌≤◌, ◌∙◌, sym, length, arith, fold, reverse, take, drop}
use Rattle.memory.proofs.Reading.{readable_in, word_is, word_none, pushed, load_fold}
use Rattle.memory.proofs.load.Goals.{Else-not-is_readable}
use Rattle.memory.proofs.load.Goals as goal

inside : (c : Else-not-is_readable) → c.args.a + c.args.n ≤ length c.args.ram.now
inside c = readable_in _ _ _ _ (sym c.is_readable.ensures ∙ c.if-not-is_readable.false)

pub returns-then-not-is_readable : goal.returns-then-not-is_readable
returns-then-not-is_readable c = word_none _ _ _ _ (sym c.is_readable.ensures ∙ c.if-not-is_readable.true)

pub overflow_add-word : goal.overflow_add-word
overflow_add-word c = let h = inside (goal.at.overflow_add-word c).Else-not-is_readable in search rules

pub slice_bounds-word-end : goal.slice_bounds-word-end
slice_bounds-word-end c = let h = inside (goal.at.slice_bounds-word-end c).Else-not-is_readable in search rules

pub returns : goal.returns
returns c =
    let a = c.args in
    let e : c.fold-v.result ≡ fold pushed 0 (reverse (take (a.a + a.n - a.a) (drop a.a a.ram.now))) = search rules in
    let h = readable_in _ _ _ _ (sym c.is_readable.ensures ∙ c.if-not-is_readable.false) in
    let same : a.a + a.n - a.a ≡ a.n = omega arith in
    word_is _ _ _ _ (sym c.is_readable.ensures ∙ c.if-not-is_readable.false)
    (rw same at e ∙ load_fold _ _ _ c.requires h (λ k. omega (arith, c.type_inv.ram k)))
