-- The installer's refusals, in their order, and the top table in its own part of RAM.
use Rattle.std.specs.Prelude.{Err, Ok, Result, ⊤}
use Prim.Native.Nat.{ℕ, ◌+◌, ◌-◌, ◌^◌, ◌≤◌, ◌<◌}
use native.Mathlib.Omega.{arith}
use mathlib.Core.Path.{◌≡◌, refl, ap, ◌∙◌}
use mathlib.Core.Bool.{Bool, true, false, ◌||◌, true≢false}
use mathlib.Core.List.{List, ◌++◌}
use lib.Dec.{ltb}
use lib.ListN.{length, take, drop, length-drop}
use lib.Seq.{length-take-le}
use borrow.Author.Tests.{eqb-true, ltb-false, not-false}
use Rattle.pte.specs.declared.PtePerms.{PtePerms}
use Rattle.scheme.specs.Refusals.{number_of, on_grant}
use Rattle.scheme.specs.declared.PagingScheme.{PagingScheme}
use Rattle.scheme.specs.declared.refusal.Refusal.{Refusal}
use Rattle.scheme.specs.declared.refusal.Refusal.TheVariants.{BadScheme, RootUnaligned, TopTableOutside, BadFlags, NoRoom}
use Rattle.plan.specs.declared.PageMapSpec.{PageMapSpec}
use Rattle.plan.specs.declared.Plan.{Plan}
use Rattle.plan.specs.declared.Window.{Window}
use Rattle.plan.specs.Map.{plan_of, flag, flags_of}
use Rattle.plan.specs.Writes.{all_writes, written}
use Rattle.plan.specs.Levels.{room_at, table_at, Fit, Good, At}
use Rattle.plan.proofs.Laws.{is_valid, span_bound}
use Rattle.plan.proofs.Rows.{table_in}
use Rattle.plan.proofs.Lent.{lent}
use Rattle.installer.specs.Install.{top_end, refuse_if, refusal_of, NoneBefore7, install_ram}
use Rattle.installer.specs.Stretch.{table_pa, Room, Layable}

-- ---- the plan of a fit scheme

flag_small : (n : ℕ) (b : Bool) → flag n b ≤ 2 ^ n
flag_small n true = omega arith
flag_small n false = omega arith

pub flags_small : (p : PtePerms) (g : Bool) → flags_of p g < 64
unfolding flags_of
flags_small p g = omega (arith, flag_small 1 p.r, flag_small 2 p.w, flag_small 3 p.x, flag_small 4 p.u, flag_small 5 g)

pub plan_good : (s : PagingScheme) (m : PageMapSpec) (win : Window) → Fit s → Good (plan_of s m win)
unfolding plan_of
plan_good s m win f = record { fit = f; flags6 = flags_small m.perms m.global }

pub at_root : (p : Plan) → Good p → At p 0 0
at_root p g = record { good = g; inside = (is_valid _ g.fit).some; range = omega (arith, span_bound p.scheme g.fit 0) }

-- ---- what holds where no refusal, or 7 alone, is given

went_by : (b : Bool) (why : Refusal) (next said : Result ⊤ Refusal) → (Err why ≡ said → ⊥) → refuse_if b why next ≡ said → (b ≡ false) × (next ≡ said)
unfolding refuse_if
went_by false why next said other e = (refl, e)
went_by true why next said other e = absurd (other e)

neither : (a b : Bool) → a || b ≡ false → (a ≡ false) × (b ≡ false)
neither false b e = (refl, e)
neither true b e = absurd (true≢false e)

module _ (s : PagingScheme) (m : PageMapSpec) (win : Window) (root len : ℕ) where
  -- the tests before 7 said no, and 7's gave the answer
  pub before_7 : (said : Result ⊤ Refusal) → ((why : Refusal) → (number_of why ≡ 7 → ⊥) → Err why ≡ said → ⊥) → refusal_of s m win root len ≡ said
      → NoneBefore7 s m root len × (refuse_if (ltb root (room_at (plan_of s m win) 0 0)) NoRoom (Ok tt) ≡ said)
  unfolding refusal_of
  before_7 said other e =
      let t1 = went_by _ _ _ said (other BadScheme (λ z. omega arith)) e in
      let t4 = went_by _ _ _ said (other RootUnaligned (λ z. omega arith)) t1.1 in
      let t5 = went_by _ _ _ said (other TopTableOutside (λ z. omega arith)) t4.1 in
      let t6 = went_by _ _ _ said (other BadFlags (λ z. omega arith)) t5.1 in
      let ends = neither _ _ t5.0 in (
        record {
          valid = not-false _ t1.0;
          aligned = eqb-true _ _ (not-false _ t4.0);
          fits = ltb-false _ _ ends.0;
          top = ltb-false _ _ ends.1;
          rights = t6.0;
        },
        t6.1,
      )

  no_refusal : (why : Refusal) → ◌≡◌ {A = Result ⊤ Refusal} (Err why) (Ok tt) → ⊥
  no_refusal why e = let z : ◌≡◌ {A = ℕ} 0 1 = cc in omega arith

  pub granted : refusal_of s m win root len ≡ Ok tt → NoneBefore7 s m root len × (room_at (plan_of s m win) 0 0 ≤ root)
  granted e =
      let t = before_7 (Ok tt) (λ why n. no_refusal why) e in
      (t.0, ltb-false _ _ (went_by _ NoRoom (Ok tt) (Ok tt) (no_refusal NoRoom) t.1).0)

module _ (s : PagingScheme) (m : PageMapSpec) (win : Window) (root : ℕ) (ram : List ℕ) where
  -- so the filling may start
  pub may_lay : Fit s → refusal_of s m win root (length ram) ≡ Ok tt → Layable (plan_of s m win) root (length ram)
  unfolding plan_of
  may_lay f e =
      let t = granted s m win root (length ram) e in
      record { good = plan_good s m win f; fits = t.0.fits; top = t.0.top; space = t.1 }

  pub laid : refusal_of s m win root (length ram) ≡ Ok tt → install_ram s m win root ram ≡ written 0 (all_writes (plan_of s m win) root) ram
  unfolding install_ram on_grant
  laid e = rw e

  pub not_laid : (why : Refusal) → refusal_of s m win root (length ram) ≡ Err why → install_ram s m win root ram ≡ ram
  unfolding install_ram on_grant
  not_laid why e = rw e

-- ---- the part of RAM that ends with the top table

module _ (p : Plan) (root stop : ℕ) (xs : List ℕ) (g : Layable p root (length xs)) (is_stop : stop ≡ top_end p.scheme root) where
  part_long : length (take (stop - 0) (drop 0 xs)) ≡ stop - 0
  part_long = length-take-le _ _ (omega (arith, length-drop 0 xs, g.fits))

  pub root_room : Room p 0 0 0 (length (take (stop - 0) (drop 0 xs)))
  root_room = record { is_at = at_root p g.good; space = omega (arith, part_long, g.space); top = omega (arith, part_long, g.top) }

  -- what is written there is written in RAM
  pub root_filled : (ys : List ℕ)
      → ys ≡ written 0 (table_at p 0 0 (table_pa p 0 0 (length (take (stop - 0) (drop 0 xs))))) (take (stop - 0) (drop 0 xs))
      → take 0 xs ++ (ys ++ drop (stop - 0) (drop 0 xs)) ≡ written 0 (all_writes p root) xs
  unfolding table_at
  root_filled ys ey =
      let part = take (stop - 0) (drop 0 xs) in
      let pa_is : table_pa p 0 0 (length part) ≡ root = omega (arith, part_long) in
      let within = table_in p 0 0 root (0 + 0) g.good.fit (at_root p g.good).inside (omega (arith, g.space)) in
      let end : top_end p.scheme root ≡ 0 + 0 + (stop - 0) = omega arith in
      ap (λ (l : List ℕ). take 0 xs ++ (l ++ drop (stop - 0) (drop 0 xs))) (ey ∙ ap (λ (pa : ℕ). written 0 (table_at p 0 0 pa) part) pa_is)
      ∙ lent 0 0 (stop - 0) (table_at p 0 0 root) xs (omega (arith, g.fits)) (rw end at within)
