-- What a walk meets at the words of an installed map: its leaves are aligned leaves, and its pointers lead to the child tables.
use Rattle.std.specs.Prelude.{Ok}
use Prim.Native.Nat.{ℕ, ◌+◌, ◌-◌, ◌*◌, ◌/◌, ◌%◌, ◌^◌, ◌≤◌, ◌<◌}
use native.Mathlib.Omega.{arith}
use mathlib.Core.Path.{◌≡◌, refl, sym, ap, ◌∙◌}
use mathlib.Core.Bool.{Bool, true, false, not, ◌&&◌, ◌||◌}
use mathlib.Core.List.{List}
use lib.Dec.{leb}
use lib.ListN.{length}
use borrow.Author.Tests.{eq-eqb, leb-true}
use Rattle.memory.specs.Word.{readable, le_at}
use Rattle.pte.specs.Entry.{is_leaf, reserved}
use Rattle.pte.specs.declared.PtePerms.{PtePerms}
use Rattle.bits.proofs.Bools.{and_right}
use Rattle.scheme.specs.Scheme.{sv32}
use Rattle.walker.specs.Descent.{frame, place, entry_at, met_at}
use Rattle.walker.specs.declared.Met.TheVariants.{Table, Leaf}
use Rattle.walker.proofs.Cases.{leaf, is_leaf_lem, is_table, is_entry}
use Rattle.plan.specs.Map.{flags_of}
use Rattle.installer.specs.Install.{barred}
use Rattle.maps.proofs.Fields.{valid_is, perms_are, ppn_is, high_is}

not_barred : (r w x : Bool) → (not ((r || w) || x) || (w && not r)) ≡ false → ((w && not r) ≡ false) × (((r || w) || x) ≡ true)
not_barred true w x e = (neither w, refl)
  where
    neither : (b : Bool) → b && false ≡ false
    neither true = refl
    neither false = refl
not_barred false false true e = (refl, refl)
not_barred false false false e = let z : ◌≡◌ {A = ℕ} 0 1 = cc in absurd (omega arith)
not_barred false true x e = let z : ◌≡◌ {A = ℕ} 0 1 = cc in absurd (omega arith)

-- a map that is not refused has leaves
lets : (p : PtePerms) → barred p ≡ false → (reserved p ≡ false) × (is_leaf p ≡ true)
unfolding barred
lets p e = not_barred p.r p.w p.x e

module _ (ram : List ℕ) (shift a w f : ℕ) (in_ram : readable 32 4 ram a ≡ true) (word : le_at 4 ram a ≡ w) (small : f < 2 ^ 22) where
  pub meets_leaf : (p : PtePerms) (g : Bool) → w ≡ f * 1024 + flags_of p g → barred p ≡ false → f % 2 ^ (shift - 12) ≡ 0 → met_at sv32 ram shift a ≡ Ok (Leaf (record { raw = w; at = a }))
  meets_leaf p g is ok even =
      let valid = ap not (valid_is f w p g is) in
      let perms = perms_are f w p g is in
      let even' = ap not (eq-eqb _ _ (ap (λ (n : ℕ). n % 2 ^ (shift - 12)) (ppn_is f w p g is small) ∙ even)) in
      sym (is_entry sv32 ram shift a in_ram)
      ∙ rw word (sym (is_leaf_lem shift a w valid (ap reserved perms ∙ (lets p ok).0) (high_is f w p g is small) (ap is_leaf perms ∙ (lets p ok).1)) ∙ sym (leaf shift a w even'))

  -- a pointer's word has the flags of a map that has none
  bare : PtePerms
  bare = record { r = false; w = false; x = false; u = false }

  pub meets_table : w ≡ f * 1024 + 1 → met_at sv32 ram shift a ≡ Ok (Table f)
  unfolding flags_of bare
  meets_table is =
      let valid = ap not (valid_is f w bare false is) in
      let perms = perms_are f w bare false is in
      sym (is_entry sv32 ram shift a in_ram)
      ∙ rw word (sym (is_table shift a w valid (ap reserved perms) (high_is f w bare false is small) (ap is_leaf perms)) ∙ ap (λ (n : ℕ). Ok (Table n)) (ppn_is f w bare false is small))

pub in_space : (ram : List ℕ) (a : ℕ) → readable 32 4 ram a ≡ true → a + 4 ≤ 2 ^ 32
unfolding readable
in_space ram a e = leb-true _ _ (and_right (leb (a + 4) (length ram)) _ e)

-- where a walk looks for entry k of the table at pa
pub place_is : (va pa shift width : ℕ) → pa % 4096 ≡ 0 → pa + 4 * (va / 2 ^ shift % 2 ^ width) + 4 ≤ 2 ^ 32
    → pa + 4 * (va / 2 ^ shift % 2 ^ width) ≡ entry_at sv32 va (pa / 4096) shift width
unfolding entry_at place frame
place_is va pa shift width pages top =
    let whole : pa / 4096 * 4096 % 2 ^ 32 ≡ pa = omega arith in
    rw whole (omega arith)
