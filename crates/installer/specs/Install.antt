-- What the installer answers and what it leaves in RAM, for every scheme, map, window, root and RAM.
use Rattle.std.specs.Prelude.{ℕ, ◌+◌, ◌%◌, ◌^◌, ◌≤◌, Bool, true, false, not, ◌||◌, ◌≡◌, List, eqb, ltb, length, Err, Ok, Result, ⊤}
use Rattle.pte.specs.Entry.{is_leaf, reserved}
use Rattle.pte.specs.declared.PtePerms.{PtePerms}
use Rattle.scheme.specs.Refusals.{on_grant}
use Rattle.scheme.specs.Scheme.{bought_of}
use Rattle.scheme.specs.declared.PagingScheme.{PagingScheme}
use Rattle.scheme.specs.declared.refusal.Refusal.{Refusal}
use Rattle.scheme.specs.declared.refusal.Refusal.TheVariants.{BadScheme, RootUnaligned, TopTableOutside, BadFlags, NoRoom}
use Rattle.plan.specs.Map.{plan_of, table_bytes}
use Rattle.plan.specs.Writes.{all_writes, written}
use Rattle.plan.specs.Levels.{width_at, room_at}
use Rattle.plan.specs.declared.PageMapSpec.{PageMapSpec}
use Rattle.plan.specs.declared.Window.{Window}

-- where the top table ends
abbrev pub top_end : PagingScheme → ℕ → ℕ
top_end s root = root + table_bytes (width_at s 0)

-- "none of R, W, X, or W without R"
unfoldable pub barred : PtePerms → Bool
barred p = not (is_leaf p) || reserved p

-- the refusal `why` if a test says so, and else what comes next
unfoldable pub refuse_if : Bool → Refusal → Result ⊤ Refusal → Result ⊤ Refusal
refuse_if true why next = Err why
refuse_if false why next = next

-- the first refusal: "The installer tests 1, 4, 5, 6, 7". `len` is the RAM's length
unfoldable pub refusal_of : PagingScheme → PageMapSpec → Window → ℕ → ℕ → Result ⊤ Refusal
refusal_of s m win root len =
    -- 1: "the scheme is not valid"; "handed Sv39, the installer gives 1"
    refuse_if (not (bought_of s)) BadScheme
    -- 4: "the map's root is not a multiple of 4096"
    (refuse_if (not (eqb (root % 4096) 0)) RootUnaligned
    -- 5: "The top table must end at or below the RAM's length and 2^32"
    (refuse_if (ltb len (top_end s root) || ltb (2 ^ 32) (top_end s root)) TopTableOutside
    -- 6: "the map has none of R, W, X, or W without R"
    (refuse_if (barred m.perms) BadFlags
    -- 7: "the child tables need more bytes than lie below the root"
    (refuse_if (ltb root (room_at (plan_of s m win) 0 0)) NoRoom
    (Ok tt)))))

-- none of 1, 4, 5, 6 is given, in plain numbers: the theorems on 7 speak of it, and hold `refusal_of` to it
pub record NoneBefore7 (s : PagingScheme) (m : PageMapSpec) (root len : ℕ) : Type 0 where
  pub valid : bought_of s ≡ true
  pub aligned : root % 4096 ≡ 0
  pub fits : top_end s root ≤ len
  pub top : top_end s root ≤ 2 ^ 32
  pub rights : barred m.perms ≡ false

abbrev pub install_said : PagingScheme → PageMapSpec → Window → ℕ → List ℕ → Result ⊤ Refusal
install_said s m win root ram = refusal_of s m win root (length ram)

-- RAM with every word of the map written, and as it was where the installer refuses
unfoldable pub install_ram : PagingScheme → PageMapSpec → Window → ℕ → List ℕ → List ℕ
install_ram s m win root ram =
    on_grant (install_said s m win root ram) (written 0 (all_writes (plan_of s m win) root) ram) ram
