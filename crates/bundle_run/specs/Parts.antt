-- What a run of a bundle's parts prints, and the RAM and the state that it leaves.
use Rattle.std.specs.Prelude.{ℕ, ◌+◌, ◌*◌, ◌≤◌, cond, List, [], length, take, drop, Err, None, Ok, Option, Result, Some, ⊤}
use Rattle.bundle.specs.declared.MapBody.{MapBody}
use Rattle.scheme.specs.declared.refusal.Refusal.{Refusal}
use Rattle.scheme.specs.Refusals.{on_grant}
use Rattle.scheme.specs.Scheme.{bought_of}
use Rattle.scheme.specs.declared.PagingScheme.{PagingScheme}
use Rattle.scheme.specs.declared.refusal.Refusal.TheVariants.{BadScheme}
use Rattle.entry.specs.Geometry.{default_config}
use Rattle.entry.specs.declared.TlbConfig.{TlbConfig}
use Rattle.state.specs.State.{state_new}
use Rattle.state.specs.declared.Mmu.{Mmu}
use Rattle.session.specs.Session.{start_of, settings_said, end_mmu, end_ram}
use Rattle.session.specs.declared.Settings.{Settings}
use Rattle.session.specs.declared.Event.{Event}
use Rattle.installer.specs.Install.{install_said, install_ram}
use Rattle.bundle.specs.declared.Parts.{Parts}
use Rattle.text.specs.Lines.{refused_line}
use Rattle.steps.specs.Steps.{events_from, text_from}

-- ---- the state to start from. "The bundle and the installer stay with 01's schemes"

-- "The program tests .. 1, 2"
unfoldable pub bundle_said : TlbConfig → Settings → Result ⊤ Refusal
bundle_said config t = cond (bought_of t.scheme) (settings_said config t) (Err BadScheme)

unfoldable pub bundle_start : TlbConfig → Settings → Mmu
bundle_start config t = cond (bought_of t.scheme) (start_of config t) (state_new default_config)

-- ---- the RAM to start from

-- the bundle's RAM, as the file has it
abbrev pub given_ram : List ℕ → Parts → List ℕ
given_ram s p = take p.ram_len (drop p.ram_start s)

-- the installer's refusals, 4 to 7; no map is never refused
abbrev pub map_said : PagingScheme → Option MapBody → List ℕ → Result ⊤ Refusal
map_said s None ram = Ok tt
map_said s (Some b) ram = install_said s b.spec b.window b.root ram

-- RAM with the map installed, and as it is where there is none
abbrev pub map_ram : PagingScheme → Option MapBody → List ℕ → List ℕ
map_ram s None ram = ram
map_ram s (Some b) ram = install_ram s b.spec b.window b.root ram

-- "A refusal prints `refused N` alone"
unfoldable pub printed : Result ⊤ Refusal → List ℕ → List ℕ
printed (Err why) text = refused_line why
printed (Ok _) text = text

-- ---- a run of some records, on a state and a RAM that is still to get its map: what is printed, RAM and the state

unfoldable pub map_text : PagingScheme → Option MapBody → List Event → Mmu → List ℕ → List ℕ
map_text s map es m ram = printed (map_said s map ram) (text_from es m (map_ram s map ram))

unfoldable pub map_end : PagingScheme → Option MapBody → List Event → Mmu → List ℕ → List ℕ
map_end s map es m ram = on_grant (map_said s map ram) (end_ram es m (map_ram s map ram)) ram

unfoldable pub map_mmu : PagingScheme → Option MapBody → List Event → Mmu → List ℕ → Mmu
map_mmu s map es m ram = on_grant (map_said s map ram) (end_mmu es m (map_ram s map ram)) m

-- ---- the same of what was read, on the bundle's RAM. `early` is what the layout or the settings are refused with; then RAM is not there yet

unfoldable pub parts_text : List ℕ → Result ⊤ Refusal → Parts → Mmu → List ℕ
parts_text s early p m =
    printed early (map_text p.settings.scheme p.map (events_from s p.first p.count) m (given_ram s p))

unfoldable pub parts_end : List ℕ → Result ⊤ Refusal → Parts → Mmu → List ℕ
parts_end s early p m =
    on_grant early (map_end p.settings.scheme p.map (events_from s p.first p.count) m (given_ram s p)) []

unfoldable pub parts_mmu : List ℕ → Result ⊤ Refusal → Parts → Mmu → Mmu
parts_mmu s early p m =
    on_grant early (map_mmu p.settings.scheme p.map (events_from s p.first p.count) m (given_ram s p)) m

-- ---- what the functions are told

-- the most bytes that an output has: 25 for each record and 113 for the tallies, or 11 where the layout or the settings are refused
unfoldable pub room_of : Result ⊤ Refusal → ℕ → ℕ
room_of (Ok _) count = 25 * count + 113
room_of (Err why) count = 11

-- the parts lie in the file, and there are not too many records
pub record Within (s : List ℕ) (p : Parts) : Type 0 where
  pub ram : p.ram_start + p.ram_len ≤ length s
  pub accesses : p.first + 8 * p.count ≤ length s
  pub few : p.count ≤ 3000
