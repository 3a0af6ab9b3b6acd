-- `tlb_in`: each field is read at its place; the four classes, one by one.
use Rattle.std.proofs.Common.{◌≡◌, ℕ, ◌≤◌, List, [], ◌∷◌, get_or, length, arith, rules, lit<}
use Rattle.std.proofs.Math.Seq.{slice, slice-cons, slice_empty}
use Rattle.image_read.specs.Reading.{tlb_read}
use Rattle.image_read.proofs.tlb_in.Goals as goal

classes : (s : List ℕ) → 88 ≤ length s → slice 84 88 s ≡ get_or s 84 0 ∷ get_or s 85 0 ∷ get_or s 86 0 ∷ get_or s 87 0 ∷ []
classes s h =
    rw (slice-cons 84 88 s 0 (lit< tt) h, slice-cons 85 88 s 0 (lit< tt) h, slice-cons 86 88 s 0 (lit< tt) h, slice-cons 87 88 s 0 (lit< tt) h, slice_empty 88 s)

pub returns : goal.returns
unfolding tlb_read
returns c = rw (← (classes c.args.s.now (omega arith))) (search rules)
