-- The numbers that stop a call, each given exactly when its sentence holds.
use Rattle.std.specs.Prelude.{ℕ, Bool, cond, Err, Ok, Result, ⊤}
use Rattle.scheme.specs.declared.refusal.Refusal.{Refusal}
use Rattle.scheme.specs.declared.refusal.Refusal.TheVariants.{BadScheme, TooManyEntries, Unfit, RootUnaligned}
use Rattle.scheme.specs.declared.refusal.Refusal.TheVariants.{TopTableOutside, BadFlags, NoRoom, BadLayout, BadMode}

abbrev pub number_of : Refusal → ℕ
-- the scheme is not valid, or a level asked about is not below its count
number_of BadScheme = 1
-- the TLB would have more than 128 entries
number_of TooManyEntries = 2
-- the MMU state handed in is unfit
number_of Unfit = 3
-- the map's root is not a multiple of 4096
number_of RootUnaligned = 4
-- the top table passes the end of RAM
number_of TopTableOutside = 5
-- the map has none of R, W, X, or W without R
number_of BadFlags = 6
-- the child tables need more bytes than lie below the root
number_of NoRoom = 7
-- the bundle breaks its layout
number_of BadLayout = 8
-- "a satp mode that is neither"
number_of BadMode = 10

-- "A refusal returns its number, the state it was handed .., and RAM as it was"
unfoldable pub on_grant : {A : Type 0} → Result ⊤ Refusal → A → A → A
on_grant (Ok _) new old = new
on_grant (Err why) new old = old

-- a number asked of a scheme, or refusal 1
unfoldable pub asked : Bool → ℕ → Result ℕ Refusal
asked known n = cond known (Ok n) (Err BadScheme)
