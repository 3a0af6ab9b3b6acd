-- Document 01's case T, as a session: what it is set up with, the map that is installed first, and what happens.
use Rattle.std.specs.Prelude.{ℕ, true, List, [], ◌∷◌, replicate}
use Rattle.scheme.specs.Scheme.{sv32_scheme}
use Rattle.scheme.specs.declared.access.AccessType.{AccessType}
use Rattle.scheme.specs.declared.access.AccessType.TheVariants.{Fetch, Load, Store}
use Rattle.scheme.specs.declared.access.PrivMode.{PrivMode}
use Rattle.scheme.specs.declared.access.PrivMode.TheVariants.{U, S}
use Rattle.walk.specs.declared.Access.{Access}
use Rattle.entry.specs.declared.ReplacementPolicy.TheVariants.{Lru}
use Rattle.entry.specs.declared.TlbConfig.{TlbConfig}
use Rattle.session.specs.Session.{start_of, end_ram}
use Rattle.session.specs.declared.Settings.{Settings}
use Rattle.session.specs.declared.Event.{Event}
use Rattle.session.specs.declared.Event.TheVariants.{Translate, Flush}
use Rattle.plan.specs.declared.MapRule.TheVariants.{Absolute}
use Rattle.plan.specs.declared.PageMapSpec.{PageMapSpec}
use Rattle.plan.specs.declared.Window.{Window}
use Rattle.installer.specs.Install.{install_ram}
use Rattle.maps.specs.Edges.{map11}

-- "32 entries, 4 ways, Lru, 1, 20"
abbrev pub config_t : TlbConfig
config_t = record { entry_count = 32; associativity = 4; replacement = Lru; hit_latency = 1; miss_penalty = 20 }

-- "Sv32", "switches 7; satp 80000001"
abbrev pub settings_t : Settings
settings_t = record { scheme = sv32_scheme; enabled = true; force = true; tlb_on = true; satp = 0x8000_0001 }

-- "absolute identity map, RWXU"
abbrev pub map_t : PageMapSpec
map_t = map11 Absolute

-- "no window"
abbrev pub window_t : Window
window_t = record { start = 0; end = 0 }

abbrev pub asked : ℕ → AccessType → PrivMode → Access
asked va kind mode = record { vaddr = va; kind = kind; mode = mode }

-- "Load U 1000, load U 3ffffc, store U 2000, store U 2004, load S 0, flush, fetch U 400000"
abbrev pub events_t : List Event
events_t =
    Translate (asked 0x1000 Load U)
    ∷ Translate (asked 0x3F_FFFC Load U)
    ∷ Translate (asked 0x2000 Store U)
    ∷ Translate (asked 0x2004 Store U)
    ∷ Translate (asked 0 Load S)
    ∷ Flush
    ∷ Translate (asked 0x40_0000 Fetch U)
    ∷ []

-- "8192 zero bytes"
unfoldable pub zeros_t : List ℕ
zeros_t = replicate 8192 0

-- RAM with the map installed, "root 4096"
abbrev pub installed_t : List ℕ → List ℕ
installed_t ram = install_ram sv32_scheme map_t window_t 4096 ram

-- and at the end
abbrev pub end_t : List ℕ → List ℕ
end_t ram = end_ram events_t (start_of config_t settings_t) (installed_t ram)
