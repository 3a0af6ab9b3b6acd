-- `put_word`: a word that lies in a stretch of at most 2^32 bytes can be read, so it is stored.
use native.Mathlib.Omega.{arith}
use Prim.Native.Nat.{ℕ, ◌+◌, ◌^◌, ◌≤◌}
use mathlib.Core.Path.{◌≡◌, sym, ◌∙◌}
use mathlib.Core.Bool.{true}
use mathlib.Core.List.{List}
use lib.ListN.{length}
use borrow.Author.Tests.{le-leb}
use Rattle.memory.specs.Word.{readable}
use Rattle.memory.proofs.Reading.{stored}
use Rattle.installer.proofs.put_word.Goals as goal

in_reach : (ram : List ℕ) (at : ℕ) → at + 4 ≤ length ram → at + 4 ≤ 2 ^ 32 → readable 32 4 ram at ≡ true
unfolding readable
in_reach ram at h t = rw (le-leb _ _ h, le-leb _ _ t)

pub returns : goal.returns
returns c =
    c.store32.ensures.1 ∙ sym (stored _ _ _ _ _ (in_reach _ _ c.requires.0 (omega (arith, c.requires))))
