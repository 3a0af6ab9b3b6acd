-- Accesses, the causes of their page faults, and what is printed of them.
use Rattle.std.specs.Prelude.{ℕ, List, codes}
use Rattle.scheme.specs.declared.access.AccessType.{AccessType}
use Rattle.scheme.specs.declared.access.AccessType.TheVariants.{Fetch, Load, Store}
use Rattle.scheme.specs.declared.access.PrivMode.{PrivMode}
use Rattle.scheme.specs.declared.access.PrivMode.TheVariants.{U, S, M}

-- "Causes: fetch 12, load 13, store 15"
abbrev pub cause_of : AccessType → ℕ
cause_of Fetch = 12
cause_of Load = 13
cause_of Store = 15

abbrev pub access_name : AccessType → List ℕ
access_name Fetch = codes "fetch"
access_name Load = codes "load"
access_name Store = codes "store"

abbrev pub privilege_name : PrivMode → List ℕ
privilege_name U = codes "U"
privilege_name S = codes "S"
privilege_name M = codes "M"
