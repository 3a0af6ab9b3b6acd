-- The way of an address down a map: the base of the entry that it meets at each level, and the level of its leaf.
use Rattle.std.specs.Prelude.{ℕ, zero, suc, ◌+◌, ◌*◌, ◌^◌, Bool, cond, List, [], ◌∷◌, length, drop}
use Rattle.bits.specs.Bits.{field_of}
use Rattle.scheme.specs.Scheme.{total, widths_of}
use Rattle.plan.specs.declared.MapRule.{MapRule}
use Rattle.plan.specs.declared.MapRule.TheVariants.{Relative, Absolute}
use Rattle.plan.specs.declared.PageMapSpec.{PageMapSpec}
use Rattle.plan.specs.declared.Plan.{Plan}
use Rattle.plan.specs.Map.{opens, frame_of}

-- "index << shift" of an address at a level of width w, over the widths ws of the levels below
abbrev pub part_of : ℕ → ℕ → List ℕ → ℕ → ℕ
part_of offset w ws va = field_of (offset + total ws) w va * 2 ^ (offset + total ws)

-- the sum of index << shift along the path, from the top down to level n
unfoldable pub sum_to : ℕ → List ℕ → ℕ → ℕ → ℕ
sum_to offset [] n va = 0
sum_to offset (w ∷ ws) zero va = part_of offset w ws va
sum_to offset (w ∷ ws) (suc n) va = part_of offset w ws va + sum_to offset ws n va

-- index << shift at level n alone
unfoldable pub own_part : ℕ → List ℕ → ℕ → ℕ → ℕ
own_part offset [] n va = 0
own_part offset (w ∷ ws) zero va = part_of offset w ws va
own_part offset (w ∷ ws) (suc n) va = own_part offset ws n va

-- "Relative, as bought: index << shift, and nothing of the parents. Absolute, added: the parent's base plus that"
abbrev pub base_by : MapRule → ℕ → List ℕ → ℕ → ℕ → ℕ
base_by Relative offset ws n va = own_part offset ws n va
base_by Absolute offset ws n va = sum_to offset ws n va

-- the map under another rule
abbrev pub with_rule : MapRule → PageMapSpec → PageMapSpec
with_rule r m = record { kind = m.kind; perms = m.perms; global = m.global; rule = r }

-- the base of the entry that va meets at level n
abbrev pub base_on : Plan → ℕ → ℕ → ℕ
base_on p n va = base_by p.rule p.scheme.offset_bits (widths_of p.scheme) n va

-- the widths below level n
abbrev pub below_on : Plan → ℕ → List ℕ
below_on p n = drop (suc n) (widths_of p.scheme)

-- the first of n numbers for which a test says no
unfoldable pub first_not : (ℕ → Bool) → ℕ → ℕ
first_not test zero = 0
first_not test (suc n) = cond (test 0) (suc (first_not (λ l. test (suc l)) n)) 0

-- the level of the leaf of va: the first whose entry opens no child table
unfoldable pub leaf_level : Plan → ℕ → ℕ
leaf_level p va = first_not (λ l. opens p (below_on p l) (base_on p l va)) (length (widths_of p.scheme))

-- its shift, and its frame: "its base plus delta, cut down to the leaf's page size"
abbrev pub leaf_shift : Plan → ℕ → ℕ
leaf_shift p va = p.scheme.offset_bits + total (below_on p (leaf_level p va))

abbrev pub leaf_frame : Plan → ℕ → ℕ
leaf_frame p va = frame_of p (below_on p (leaf_level p va)) (base_on p (leaf_level p va) va)
