-- What the program answers for a file: its output, and the RAM and the state that it leaves.
use Rattle.std.specs.Prelude.{ℕ, ◌≤◌, ◌≡◌, Bool, cond, ◌||◌, List, [], ltb, length, Err, Ok, Result, ⊤}
use Rattle.run.specs.declared.TooShort.{TooShort}
use Rattle.scheme.specs.declared.refusal.Refusal.{Refusal}
use Rattle.std.proofs.lemmas.List.Edits.{sets}
use Rattle.entry.specs.Geometry.{default_config}
use Rattle.state.specs.State.{state_new}
use Rattle.state.specs.declared.Mmu.{Mmu}
use Rattle.text.specs.Lines.{refused_line}
use Rattle.bundle.specs.declared.Parts.{Parts}
use Rattle.bundle.specs.Parts.{read_of}
use Rattle.bundle_run.specs.Parts.{bundle_said, bundle_start, parts_text, parts_end, parts_mmu, room_of}

-- what comes of a layout that is refused, or of the parts that were read
unfoldable pub of_read : {A : Type 0} → Result Parts Refusal → (Refusal → A) → (Parts → A) → A
of_read (Err why) refused good = refused why
of_read (Ok p) refused good = good p

-- ---- what was read: what its settings are refused with, and the state that they give

abbrev pub parts_said : Parts → Result ⊤ Refusal
parts_said p = bundle_said p.config p.settings

abbrev pub parts_start : Parts → Mmu
parts_start p = bundle_start p.config p.settings

-- ---- the whole file. "The program tests 8, 1, 2, then the installer's", over the bundle's own RAM

-- the state that its settings give, and the default one where there are none
abbrev pub start_in : List ℕ → Mmu
start_in s = of_read (read_of s) (λ why. state_new default_config) parts_start

-- the whole output: the refusal alone, or the lines and the tallies
abbrev pub output_of : List ℕ → List ℕ
output_of s = of_read (read_of s) refused_line (λ p. parts_text s (parts_said p) p (parts_start p))

-- RAM as the run leaves it. Where the installer refuses it is the bundle's own, with no map; where 8, 1 or 2 comes first there is none
abbrev pub end_ram_of : List ℕ → List ℕ
end_ram_of s = of_read (read_of s) (λ why. []) (λ p. parts_end s (parts_said p) p (parts_start p))

-- the state as the run leaves it; on any refusal that which the settings gave, which is the default one where they are refused
abbrev pub end_mmu_of : List ℕ → Mmu
end_mmu_of s = of_read (read_of s) (λ why. state_new default_config) (λ p. parts_mmu s (parts_said p) p (parts_start p))

-- ---- the buffers

-- whether a buffer is too short: one of ram bytes for RAM, or one of out bytes for the output
abbrev pub too_short : List ℕ → ℕ → ℕ → Bool
too_short s ram out =
    of_read (read_of s) (λ why. ltb out 11) (λ p. ltb out (room_of (parts_said p) p.count) || ltb ram p.ram_len)

abbrev pub ran_of : List ℕ → ℕ → ℕ → Result ℕ TooShort
ran_of s ram out = cond (too_short s ram out) (Err (record {})) (Ok (length (output_of s)))

-- the state beside it: where a buffer is too short nothing was run
abbrev pub ran_mmu : Bool → List ℕ → Mmu
ran_mmu short s = cond short (start_in s) (end_mmu_of s)

-- a buffer after the run: what the run leaves is at its start and the rest of it is as it was; all of it where one is too short
abbrev pub ran_buffer : Bool → List ℕ → List ℕ → List ℕ
ran_buffer short old new = cond short old (sets old 0 new)

-- what is written lies in a buffer of len bytes, so that a caller can lend that part of it
abbrev pub WroteWithin : Result ℕ TooShort → ℕ → Type 0
WroteWithin r len = (n : ℕ) → r ≡ Ok n → n ≤ len
