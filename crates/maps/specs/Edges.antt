-- Document 01, "Both sides of each edge": P11 and P12. proofs/Edges.antt has a proof of each.
use Rattle.std.specs.Prelude.{ℕ, ◌≡◌, true, false, List, length, Err, Ok}
use Rattle.memory.specs.Word.{le_at}
use Rattle.scheme.specs.Scheme.{sv32_scheme}
use Rattle.scheme.specs.declared.map.MapKind.TheVariants.{Identity}
use Rattle.scheme.specs.declared.refusal.Refusal.TheVariants.{TopTableOutside}
use Rattle.scheme.specs.Scheme.{sv32}
use Rattle.walker.specs.Descent.{frame}
use Rattle.pte.specs.Entry.{ppn_of}
use Rattle.plan.specs.declared.MapRule.{MapRule}
use Rattle.plan.specs.declared.MapRule.TheVariants.{Relative, Absolute}
use Rattle.plan.specs.declared.PageMapSpec.{PageMapSpec}
use Rattle.plan.specs.declared.Window.{Window}
use Rattle.installer.specs.Install.{install_said, install_ram}

-- "identity RWXU"
abbrev pub map11 : MapRule → PageMapSpec
map11 r = record { kind = Identity; perms = record { r = true; w = true; x = true; u = true }; global = false; rule = r }

-- "window 400000h to 401000h"
abbrev pub window11 : Window
window11 = record { start = 4194304; end = 4198400 }

-- RAM after P11's map is installed: "Sv32, root 10000h"
abbrev pub ram11 : MapRule → List ℕ → List ℕ
ram11 r ram = install_ram sv32_scheme (map11 r) window11 65536 ram

-- "RAM 11000h": nothing is refused; "root word 1 is 3C01, the child is at F000, its word 0 is 1F relative and 0010001F absolute"
abbrev pub P11 : Type 0
P11 =
    (ram : List ℕ) → length ram ≡ 69632
    → ((r : MapRule) → install_said sv32_scheme (map11 r) window11 65536 ram ≡ Ok tt)
    × ((r : MapRule) → le_at 4 (ram11 r ram) 65540 ≡ 15361)
    × (frame sv32 (ppn_of 15361) ≡ 61440)
    × (le_at 4 (ram11 Relative ram) 61440 ≡ 31)
    × (le_at 4 (ram11 Absolute ram) 61440 ≡ 1048607)

-- "Same with 10FFFh bytes: 5"
abbrev pub P12 : Type 0
P12 = (ram : List ℕ) → length ram ≡ 69631 → (r : MapRule) → install_said sv32_scheme (map11 r) window11 65536 ram ≡ Err TopTableOutside
