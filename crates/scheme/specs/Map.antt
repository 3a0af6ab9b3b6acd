-- The map's offset: "a signed count of MiB; its byte delta is taken mod 2^32".
use Rattle.std.specs.Prelude.{ℕ, ◌-◌, ◌%◌, ◌^◌, ℤ, pos, negsuc, ◌*ℤ◌}
use Rattle.scheme.specs.declared.map.MapKind.{MapKind}
use Rattle.scheme.specs.declared.map.MapKind.TheVariants.{Identity, Offset}

-- the remainder of an integer by m, from 0 to m - 1: -(n + 1) is m - 1 - n, mod m
abbrev pub mod_z : ℤ → ℕ → ℕ
mod_z (pos n) m = n % m
mod_z (negsuc n) m = m - 1 - n % m

-- the byte delta of a count of MiB: "-1 gives FFF00000 and 4096 gives 0"
abbrev pub delta : ℤ → ℕ
delta mib = mod_z (mib *ℤ pos (2 ^ 20)) (2 ^ 32)

-- the byte delta of a map: an identity map moves nothing
abbrev pub delta_of : MapKind → ℕ
delta_of Identity = 0
delta_of (Offset mib) = delta mib
