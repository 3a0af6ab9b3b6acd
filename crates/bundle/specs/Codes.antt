-- The bundle's numbers and what they stand for. A number outside its range falls to the last case: the layout has ruled it out.
use Rattle.std.specs.Prelude.{ℕ, ◌-◌, ◌^◌, cond, eqb, ltb, ℤ, pos, negsuc}
use Rattle.scheme.specs.declared.access.AccessType.{AccessType}
use Rattle.scheme.specs.declared.access.AccessType.TheVariants.{Fetch, Load, Store}
use Rattle.scheme.specs.declared.access.PrivMode.{PrivMode}
use Rattle.scheme.specs.declared.access.PrivMode.TheVariants.{U, S, M}
use Rattle.scheme.specs.declared.map.MapKind.{MapKind}
use Rattle.scheme.specs.declared.map.MapKind.TheVariants.{Identity, Offset}
use Rattle.entry.specs.declared.ReplacementPolicy.{ReplacementPolicy}
use Rattle.entry.specs.declared.ReplacementPolicy.TheVariants.{Lru, Mru, Fifo, Lfu, Clock, Random}
use Rattle.plan.specs.declared.MapRule.{MapRule}
use Rattle.plan.specs.declared.MapRule.TheVariants.{Relative, Absolute}

-- "policy (0 Lru, 1 Mru, 2 Fifo, 3 Lfu, 4 Clock, 5 Random)": the numbers are those of `policy_number`
abbrev pub policy_of : ℕ → ReplacementPolicy
policy_of n =
    cond (eqb n 0) Lru (cond (eqb n 1) Mru (cond (eqb n 2) Fifo (cond (eqb n 3) Lfu (cond (eqb n 4) Clock Random))))

-- "access (0 fetch, 1 load, 2 store)"
abbrev pub access_number : AccessType → ℕ
access_number Fetch = 0
access_number Load = 1
access_number Store = 2

abbrev pub access_of : ℕ → AccessType
access_of n = cond (eqb n 0) Fetch (cond (eqb n 1) Load Store)

-- "privilege (0 U, 1 S, 3 M)"
abbrev pub mode_number : PrivMode → ℕ
mode_number U = 0
mode_number S = 1
mode_number M = 3

abbrev pub mode_of : ℕ → PrivMode
mode_of n = cond (eqb n 0) U (cond (eqb n 1) S M)

-- "rule (0 relative, 1 absolute)"
abbrev pub rule_number : MapRule → ℕ
rule_number Relative = 0
rule_number Absolute = 1

abbrev pub rule_of : ℕ → MapRule
rule_of n = cond (eqb n 0) Relative Absolute

-- an i32 and its 32 bits, in two's complement
abbrev pub signed32 : ℕ → ℤ
signed32 x = cond (ltb x (2 ^ 31)) (pos x) (negsuc (2 ^ 32 - 1 - x))

abbrev pub bits32 : ℤ → ℕ
bits32 (pos n) = n
bits32 (negsuc n) = 2 ^ 32 - 1 - n

-- "kind (0 identity, 1 offset)", and its "i32 MiB (0 for identity)"
abbrev pub kind_number : MapKind → ℕ
kind_number Identity = 0
kind_number (Offset mib) = 1

abbrev pub mib_number : MapKind → ℕ
mib_number Identity = 0
mib_number (Offset mib) = bits32 mib

abbrev pub kind_of : ℕ → ℕ → MapKind
kind_of n mib = cond (eqb n 0) Identity (Offset (signed32 mib))
