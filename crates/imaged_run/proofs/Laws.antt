-- A list of records that is not refused is short.
use Rattle.std.specs.Prelude.{Ok, Result}
use Prim.Native.Nat.{ℕ, ◌≤◌}
use mathlib.Core.Path.{◌≡◌, refl}
use mathlib.Core.Bool.{Bool, true, false}
use mathlib.Core.List.{List}
use lib.ListN.{length}
use borrow.Author.Tests.{leb-true}
use Rattle.bits.proofs.Bools.{and_left}
use Rattle.scheme.specs.declared.refusal.Refusal.{Refusal}
use Rattle.state.specs.declared.Mmu.{Mmu}
use Rattle.imaged.specs.Imaged.{laid_out}
use Rattle.imaged_run.specs.Records.{records_given, fitting, opened_of}

laid : {m : Mmu} (good : Bool) (read : Result Mmu Refusal) → fitting (laid_out good read) ≡ Ok m → good ≡ true
unfolding laid_out
laid true read e = refl
laid false read e = absurd cc

pub opened_short : (image records : List ℕ) {m : Mmu} → opened_of image records ≡ Ok m → length records ≤ 24000
unfolding opened_of records_given
opened_short image records e = leb-true _ _ (and_left _ _ (laid _ _ e))
