-- `store`: from the first byte up, writing what is left of the word comes to writing the word.
use Rattle.std.proofs.Common.{◌≡◌, ◌+◌, ◌-◌}
use borrow.Rule.Slice.PartMut.{put_mid}
use Rattle.memory.specs.Word.{put_at}
use Rattle.memory.proofs.store.Given as goal

abbrev pub invariant-loop-b : goal.invariant-loop-b
invariant-loop-b l = put_at (l.n - l.b-index) (put_mid l.a l.n l.fn.ram l.b-items) (l.a + l.b-index) l.rest ≡ put_at l.n l.fn.ram l.a l.v
