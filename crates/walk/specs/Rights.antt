-- What an access needs of a leaf, and what its privilege needs.
use Rattle.std.specs.Prelude.{Bool, true, not}
use Rattle.pte.specs.declared.PtePerms.{PtePerms}
use Rattle.scheme.specs.declared.access.AccessType.{AccessType}
use Rattle.scheme.specs.declared.access.AccessType.TheVariants.{Fetch, Load, Store}
use Rattle.scheme.specs.declared.access.PrivMode.{PrivMode}
use Rattle.scheme.specs.declared.access.PrivMode.TheVariants.{U, S, M}

-- "X, R or W as the access needs"
abbrev pub allows : AccessType → PtePerms → Bool
allows Fetch p = p.x
allows Load p = p.r
allows Store p = p.w

-- "U must be set in user mode, clear in supervisor mode, and is not looked at in machine mode"
abbrev pub open_to : PrivMode → PtePerms → Bool
open_to U p = p.u
open_to S p = not p.u
open_to M p = true
