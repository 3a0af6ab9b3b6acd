-- Refusal 7 against the tables that a map opens.
use Rattle.std.specs.Prelude.{Err, Ok, Result, ⊤}
use Prim.Native.Nat.{ℕ, ◌^◌, ◌<◌}
use native.Mathlib.Omega.{arith}
use mathlib.Core.Path.{◌≡◌, refl, sym, ap}
use mathlib.Core.Bool.{Bool, true, false, ◌||◌}
use lib.Dec.{ltb}
use borrow.Author.Tests.{eq-eqb, lt-ltb, ltb-true, le-ltb}
use Rattle.scheme.specs.Refusals.{number_of}
use Rattle.scheme.specs.declared.PagingScheme.{PagingScheme}
use Rattle.scheme.specs.declared.refusal.Refusal.{Refusal}
use Rattle.scheme.specs.declared.refusal.Refusal.TheVariants.{NoRoom}
use Rattle.plan.specs.declared.PageMapSpec.{PageMapSpec}
use Rattle.plan.specs.declared.Window.{Window}
use Rattle.plan.specs.Map.{plan_of}
use Rattle.plan.specs.Levels.{room_at}
use Rattle.installer.specs.Install.{top_end, refuse_if, refusal_of, NoneBefore7}
use Rattle.installer.proofs.Install.{before_7}
use Rattle.maps.specs.Tables.{child_tables, slots_of}
use Rattle.maps.proofs.Tables.{children_slots}

-- no other refusal is this one
other : (why : Refusal) → (number_of why ≡ 7 → ⊥) → ◌≡◌ {A = Result ⊤ Refusal} (Err why) (Err NoRoom) → ⊥
other why n e = let same : why ≡ NoRoom = cc in n (ap number_of same)

-- 7 was given
given : (b : Bool) → refuse_if b NoRoom (Ok tt) ≡ Err NoRoom → b ≡ true
unfolding refuse_if
given true e = refl
given false e = let z : ◌≡◌ {A = ℕ} 0 1 = cc in absurd (omega arith)

module _ (s : PagingScheme) (m : PageMapSpec) (win : Window) (root len : ℕ) where
  room_is : room_at (plan_of s m win) 0 0 ≡ slots_of (child_tables (plan_of s m win) root)
  unfolding room_at
  room_is = sym (children_slots (plan_of s m win) root)

  pub counted : refusal_of s m win root len ≡ Err NoRoom → NoneBefore7 s m root len × (root < slots_of (child_tables (plan_of s m win) root))
  counted e =
      let t = before_7 s m win root len (Err NoRoom) other e in
      let more = ltb-true root (room_at (plan_of s m win) 0 0) (given _ t.1) in
      (t.0, omega (arith, more, room_is))

  inside : NoneBefore7 s m root len → (ltb len (top_end s root) || ltb (2 ^ 32) (top_end s root)) ≡ false
  inside e = rw (le-ltb _ _ e.fits, le-ltb _ _ e.top)

  pub count_refused : NoneBefore7 s m root len → root < slots_of (child_tables (plan_of s m win) root) → refusal_of s m win root len ≡ Err NoRoom
  unfolding refusal_of refuse_if
  count_refused e h =
      rw (e.valid, eq-eqb _ _ e.aligned, inside e, e.rights, lt-ltb root (room_at (plan_of s m win) 0 0) (omega (arith, h, room_is)))
