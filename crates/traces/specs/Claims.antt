-- What holds of every bundle that is run. proofs/Claims.antt has a proof of each.
use Rattle.std.specs.Prelude.{ℕ, ◌≡◌, true, false, List, [], map, take, Ok}
use Rattle.state.specs.State.{fit_of}
use Rattle.session.specs.Session.{end_mmu}
use Rattle.session.specs.declared.Event.{Event}
use Rattle.walks.specs.Plain.{Bytes}
use Rattle.order.specs.Runs.{accesses, answers, refusals}
use Rattle.order.specs.Plain.{plain_answer}
use Rattle.steps.specs.Steps.{events_from}
use Rattle.bundle.specs.Parts.{read_of}
use Rattle.bundle.specs.declared.Parts.{Parts}
use Rattle.bundle_run.specs.Parts.{given_ram, map_ram}
use Rattle.run.specs.Run.{parts_said, parts_start, output_of, too_short}

-- what the bundle asks for
abbrev pub events_in : List ℕ → Parts → List Event
events_in s p = events_from s p.first p.count

-- the bundle's RAM with its map
abbrev pub ram_in : List ℕ → Parts → List ℕ
ram_in s p = map_ram p.settings.scheme p.map (given_ram s p)

-- "A refusal prints `refused N` alone": where layout and settings are not refused, no access and no flush is, so `refused` never stands in
-- the line of an access; and the state ends fit
abbrev pub NothingRefused : Type 0
NothingRefused =
    (s : List ℕ) (p : Parts) → read_of s ≡ Ok p → parts_said p ≡ Ok tt
    → (refusals (events_in s p) (parts_start p) (ram_in s p) ≡ []) × (fit_of (end_mmu (events_in s p) (parts_start p) (ram_in s p)) ≡ true)

-- the lines of the accesses tell what plain walks over the bundle's RAM answer, whatever its cache: demand 3, of a bundle
abbrev pub EachIsPlain : Type 0
EachIsPlain =
    (s : List ℕ) (p : Parts) → Bytes s → read_of s ≡ Ok p → parts_said p ≡ Ok tt
    → answers (events_in s p) (parts_start p) (ram_in s p) ≡ map (plain_answer p.settings (ram_in s p)) (accesses (events_in s p))

-- the program's buffers, 32,768 bytes for RAM and 75,113 for the output, fit every file
abbrev pub BuffersFit : Type 0
BuffersFit = (s : List ℕ) → too_short s 32768 75113 ≡ false

-- the program reads 56,861 bytes at most, one more than the longest good file has: what it prints is the whole file's output
abbrev pub CutIsEnough : Type 0
CutIsEnough = (s : List ℕ) → output_of (take 56861 s) ≡ output_of s
