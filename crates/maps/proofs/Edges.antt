-- A proof of each statement in specs/Edges.antt. P11 goes through the list of writes: RAM itself is never computed.
use Rattle.std.specs.Prelude.{Ok}
use Prim.Native.Nat.{ℕ}
use mathlib.Core.Path.{◌≡◌, refl, ap, ◌∙◌}
use mathlib.Core.List.{List}
use lib.ListN.{length}
use Rattle.memory.specs.Word.{le_at}
use Rattle.scheme.specs.Scheme.{total, ok_widths, widths_of, sv32_scheme, bought_of}
use Rattle.walker.specs.Descent.{frame}
use Rattle.plan.specs.declared.MapRule.{MapRule}
use Rattle.plan.specs.declared.MapRule.TheVariants.{Relative, Absolute}
use Rattle.plan.specs.Map.{plan_of, flags_of, opens, sum_from, room}
use Rattle.plan.specs.Writes.{row_writes, table_writes}
use Rattle.plan.specs.Levels.{room_at}
use Rattle.installer.specs.Install.{barred, refuse_if, refusal_of, install_said}
use Rattle.maps.specs.Edges.{map11, window11, ram11, P11, P12}
use Rattle.maps.proofs.Holds.{Holds}
use Rattle.maps.proofs.Sums.{holds_all}

granted11 : (r : MapRule) → refusal_of sv32_scheme (map11 r) window11 65536 69632 ≡ Ok tt
unfolding refusal_of refuse_if bought_of ok_widths total barred room_at room sum_from opens plan_of
granted11 Relative = refl
granted11 Absolute = refl

pub p12 : P12
unfolding refusal_of refuse_if bought_of ok_widths total
p12 ram e r = ap (λ (n : ℕ). refusal_of sv32_scheme (map11 r) window11 65536 n) e

-- the words that the list of writes gives
words11 : (r : MapRule) (ram : List ℕ) → Holds ram (table_writes (plan_of sv32_scheme (map11 r) window11) (widths_of sv32_scheme) 0 65536) → le_at 4 ram 65540 ≡ 15361
unfolding Holds table_writes row_writes opens total room sum_from plan_of
words11 Relative ram h = h.1.0.1
words11 Absolute ram h = h.1.0.1

relative11 : (ram : List ℕ) → Holds ram (table_writes (plan_of sv32_scheme (map11 Relative) window11) (widths_of sv32_scheme) 0 65536) → le_at 4 ram 61440 ≡ 31
unfolding Holds table_writes row_writes opens total room sum_from plan_of flags_of
relative11 ram h = h.1.1.0.1

absolute11 : (ram : List ℕ) → Holds ram (table_writes (plan_of sv32_scheme (map11 Absolute) window11) (widths_of sv32_scheme) 0 65536) → le_at 4 ram 61440 ≡ 1048607
unfolding Holds table_writes row_writes opens total room sum_from plan_of flags_of
absolute11 ram h = h.1.1.0.1

module _ (ram : List ℕ) (e : length ram ≡ 69632) (r : MapRule) where
  ok11 : install_said sv32_scheme (map11 r) window11 65536 ram ≡ Ok tt
  ok11 = ap (λ (n : ℕ). refusal_of sv32_scheme (map11 r) window11 65536 n) e ∙ granted11 r

  held11 : Holds (ram11 r ram) (table_writes (plan_of sv32_scheme (map11 r) window11) (widths_of sv32_scheme) 0 65536)
  held11 = holds_all sv32_scheme (map11 r) window11 65536 ram ok11

pub p11 : P11
unfolding frame
p11 ram e = (
  ok11 ram e,
  (λ r. words11 r (ram11 r ram) (held11 ram e r)),
  refl,
  relative11 (ram11 Relative ram) (held11 ram e Relative),
  absolute11 (ram11 Absolute ram) (held11 ram e Absolute),
)
