-- `go_down`: after each level what is left to seek is what was asked for.
use Rattle.std.specs.Prelude.{Ok, Result}
use Prim.Native.Nat.{ℕ, ◌+◌, ◌-◌, ◌≤◌}
use mathlib.Core.Path.{◌≡◌, refl, sym, ap, ◌∙◌}
use mathlib.Core.Bool.{true}
use mathlib.Core.List.{List, ◌∷◌}
use native.Mathlib.Omega.{arith}
use borrow.Author.Rules.{rules}
use lib.ListN.{length, get_or, drop}
use Rattle.scheme.specs.Scheme.{total, ok_widths, widths_of}
use Rattle.scheme.proofs.Widths.{Valid, valid, ok_high, ok_rest, rest_cons, rest_end, total_cons, total_end}
use Rattle.walker.specs.Descent.{seek, follow, entry_at, met_at}
use Rattle.walker.specs.declared.Met.{Met}
use Rattle.walker.specs.declared.Reason.{Reason}
use Rattle.walker.specs.declared.Descent.{Descent}
use Rattle.walker.proofs.Down.{seek_cons, seek_none}
use Rattle.walker.proofs.go_down.Goals.{In-loop-level, Start, in-Err, in-Ok-Leaf}
use Rattle.walker.proofs.go_down.Goals as goal

-- what validity gives, and that the array holds every used width
known : (c : Start) → Valid c.args.scheme
known c = valid _ c.requires.0

long : (c : Start) → c.args.scheme.levels ≤ length c.args.scheme.level_bits
long c = let e : length c.args.scheme.level_bits ≡ 4 = search rules in omega (arith, (known c).four)

abbrev width : (c : In-loop-level) → ℕ
width c = get_or c.args.scheme.level_bits c.loop-level.level 0

abbrev below : (c : In-loop-level) → List ℕ
below c = drop (c.loop-level.level + 1) (widths_of c.args.scheme)

head : (c : In-loop-level) → drop c.loop-level.level (widths_of c.args.scheme) ≡ (width c) ∷ (below c)
head c = rest_cons c.args.scheme.level_bits c.args.scheme.levels (long (goal.at.bounds-scheme-level c).Start) c.loop-level.level c.loop-level-test.true

ok : (c : In-loop-level) → ok_widths ((width c) ∷ (below c)) ≡ true
ok c = ap ok_widths (sym (head c)) ∙ c.loop-level.invariant.2

shift_is : (c : In-loop-level) → c.loop-level.shift ≡ c.args.scheme.offset_bits + ((width c) + total (below c))
shift_is c = c.loop-level.invariant.1 ∙ ap (λ (n : ℕ). c.args.scheme.offset_bits + n) (total_cons c.args.scheme.level_bits c.args.scheme.levels (long (goal.at.bounds-scheme-level c).Start) c.loop-level.level c.loop-level-test.true)

-- the walk down some widths, from a level and a table
abbrev walk_from : (c : In-loop-level) → List ℕ → ℕ → ℕ → Descent
walk_from c = seek c.args.f c.args.ram.now c.args.vaddr c.args.scheme.offset_bits

-- where the walk ends, if m is what the turn meets
abbrev ends : (c : In-loop-level) → Result Met Reason → Descent
ends c m = follow m (c.loop-level.shift - (width c)) c.loop-level.level ((walk_from c) (below c) (c.loop-level.level + 1))

next_shift : (c : In-loop-level) → c.loop-level.shift - (width c) ≡ c.args.scheme.offset_bits + total (below c)
next_shift c = omega (arith, (shift_is c))

-- what is left to seek at the start of a turn is what follows what the turn meets
turn : (c : In-loop-level) (at : ℕ) (m : Result Met Reason) → at ≡ entry_at c.args.f c.args.vaddr c.loop-level.table (c.loop-level.shift - width c) (width c)
    → m ≡ met_at c.args.f c.args.ram.now (c.loop-level.shift - width c) at
    → walk_from c (widths_of c.args.scheme) 0 c.args.root ≡ ends c m
turn c at m e g =
    sym c.loop-level.invariant.3
    ∙ ap (λ (ws : List ℕ). walk_from c ws c.loop-level.level c.loop-level.table) (head c)
    ∙ seek_cons _ _ _ _ (width c) (below c) _ _ _ _ _ (next_shift c) e g

pub loop-level-init : goal.loop-level-init
loop-level-init c =
    let v = known (goal.at.loop-level-init c).Start in
    (omega (arith, c.requires.2, v.most), c.requires.2, v.ok, refl)

pub bounds-scheme-level : goal.bounds-scheme-level
bounds-scheme-level c = omega (arith, (known (goal.at.bounds-scheme-level c).Start).four)

pub overflow_sub-shift : goal.overflow_sub-shift
overflow_sub-shift c = omega (arith, shift_is (goal.at.overflow_sub-shift c).In-loop-level)

pub entry_at-requires : goal.entry_at-requires
entry_at-requires c = (c.requires.1, omega arith, ok_high _ _ (ok (goal.at.entry_at-requires c).In-loop-level))

pub met_at-met-requires : goal.met_at-met-requires
met_at-met-requires c = (c.requires.1, omega (arith, shift_is (goal.at.met_at-met-requires c).In-loop-level, (known (goal.at.met_at-met-requires c).Start).offset_low))

pub returns-in-loop-level : goal.returns-in-loop-level
unfolding follow
returns-in-loop-level c =
    let l = (goal.at.returns-in-loop-level c).In-loop-level in
    let e = turn l _ _ c.entry_at.ensures c.met_at-met.ensures in
    elim c.match-met.branch [
      | in-Err w ↦ rw w.end-is (sym (e ∙ ap (ends l) w.in-Err.is))
      | in-Ok-Leaf w ↦ rw w.end-is (sym (e ∙ ap (ends l) (w.in-Ok-Leaf.is ∙ ap Ok (rw w.in-Ok-Leaf.is at w.in-Ok-Leaf.field-0-is))))
    ]

pub loop-level-preserved : goal.loop-level-preserved
unfolding follow
loop-level-preserved c = (
  omega (arith, shift_is (goal.at.loop-level-preserved c).In-loop-level),
  next_shift (goal.at.loop-level-preserved c).In-loop-level,
  ok_rest _ _ (ok (goal.at.loop-level-preserved c).In-loop-level),
  sym (turn (goal.at.loop-level-preserved c).In-loop-level _ _ c.entry_at.ensures c.met_at-met.ensures ∙ ap (ends (goal.at.loop-level-preserved c).In-loop-level) (c.in-Ok-Table.is ∙ ap Ok (rw c.in-Ok-Table.is at c.in-Ok-Table.field-0-is))),
)

pub overflow_sub-last : goal.overflow_sub-last
overflow_sub-last c = omega (arith, (known (goal.at.overflow_sub-last c).Start).some)

pub returns : goal.returns
returns c =
    let l = c.loop-level in
    let e : l.level ≡ c.args.scheme.levels = omega arith in
    let k : c.args.scheme.offset_bits ≡ l.shift = omega (arith, l.invariant.1, total_end c.args.scheme.level_bits c.args.scheme.levels (long (goal.at.returns c).Start) l.level c.loop-level-test.false) in
    sym (sym l.invariant.3
    ∙ ap (λ (ws : List ℕ). seek c.args.f c.args.ram.now c.args.vaddr c.args.scheme.offset_bits ws l.level l.table)
    (rest_end c.args.scheme.level_bits c.args.scheme.levels (long (goal.at.returns c).Start) l.level c.loop-level-test.false)
    ∙ seek_none _ _ _ _ _ _
    ∙ rw (e, k))
