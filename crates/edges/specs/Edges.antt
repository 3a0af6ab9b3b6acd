-- Document 01, "Both sides of each edge": the numbers that are proved, from the definitions.
use Rattle.std.specs.Prelude.{ℕ, ◌≡◌, List, [], ◌∷◌, true, false, pos, negsuc, length, Err, Ok}
use Rattle.memory.specs.Word.{le_at}
use Rattle.scheme.specs.Map.{delta_of}
use Rattle.scheme.specs.Scheme.{valid_of, sv32_scheme, root_pa}
use Rattle.scheme.specs.declared.PagingScheme.{PagingScheme}
use Rattle.scheme.specs.declared.map.MapKind.TheVariants.{Offset}
use Rattle.scheme.specs.declared.refusal.Refusal.TheVariants.{TooManyEntries}
use Rattle.walks.specs.Plain.{Bytes}
use Rattle.entry.specs.Geometry.{entries_for, sets_for, default_config}
use Rattle.entry.specs.declared.TlbConfig.{TlbConfig}
use Rattle.mmu.specs.Calls.{new_of}
use Rattle.installer.specs.Install.{install_said}
use Rattle.maps.specs.Edges as maps
use Rattle.edges.specs.CaseT.{map_t, window_t, zeros_t, end_t}

-- a scheme of one or two widths
abbrev pub scheme_of : ℕ → ℕ → ℕ → ℕ → PagingScheme
scheme_of offset levels a b = record { offset_bits = offset; level_bits = a ∷ b ∷ 0 ∷ 0 ∷ []; levels = levels }

-- a configuration of so many entries and ways, with the default's policy and times
abbrev pub config_of : ℕ → ℕ → TlbConfig
config_of entries ways = record {
  entry_count = entries;
  associativity = ways;
  replacement = default_config.replacement;
  hit_latency = default_config.hit_latency;
  miss_penalty = default_config.miss_penalty;
}

-- "P1 Sv32 valid"
abbrev pub P1 : Type 0
P1 = valid_of sv32_scheme ≡ true

-- "P2 offset 12, one width of 20, not"
abbrev pub P2 : Type 0
P2 = valid_of (scheme_of 12 1 20 0) ≡ false

-- "P3 offset 30 with 1, 1 valid"
abbrev pub P3 : Type 0
P3 = valid_of (scheme_of 30 2 1 1) ≡ true

-- "P4 32 entries, 3 ways: 33 entries, 11 sets"
abbrev pub P4 : Type 0
P4 = (entries_for 32 3 ≡ 33) × (sets_for 32 3 ≡ 11)

-- "P5 128 and 4: 128"
abbrev pub P5 : Type 0
P5 = (entries_for 128 4 ≡ 128) × ((new_of (config_of 128 4)).said ≡ Ok tt)

-- "P6 128 and 3: 129, refused"
abbrev pub P6 : Type 0
P6 = (entries_for 128 3 ≡ 129) × ((new_of (config_of 128 3)).said ≡ Err TooManyEntries)

-- "P7 0 and 0: one entry"
abbrev pub P7 : Type 0
P7 = entries_for 0 0 ≡ 1

-- "P8 delta of -1": FFF00000; and 4096 gives 0
abbrev pub P8 : Type 0
P8 = (delta_of (Offset (negsuc 0)) ≡ 0xFFF0_0000) × (delta_of (Offset (pos 4096)) ≡ 0)

-- "P9 `root_pa` of 65536 for Sv32: F000; of 100: 0"
abbrev pub P9 : Type 0
P9 = (root_pa sv32_scheme 65536 ≡ Ok 0xF000) × (root_pa sv32_scheme 100 ≡ Ok 0)

-- a RAM that case T leaves the words DF and 0010005F in, once its map is installed and nothing refused
abbrev pub EndsAsT : List ℕ → Type 0
EndsAsT ram =
    (install_said sv32_scheme map_t window_t 4096 ram ≡ Ok tt)
    × (le_at 4 (end_t ram) 4096 ≡ 0xDF)
    × (le_at 4 (end_t ram) 4100 ≡ 0x0010_005F)

-- "P10 Case T ends with the words DF and 0010005F at 4096 and 4100": on its 8192 zeros, and on any other 8192 bytes
abbrev pub P10 : Type 0
P10 = EndsAsT zeros_t × ((ram : List ℕ) → length ram ≡ 8192 → Bytes ram → EndsAsT ram)

-- "P11 Sv32, root 10000h, RAM 11000h, identity RWXU, window 400000h to 401000h: root word 1 is 3C01, the child is at F000, its word 0 is 1F
-- relative and 0010001F absolute": written out in `maps`, where it also shows that the two rules differ
abbrev pub P11 : Type 0
P11 = maps.P11

-- "P12 Same with 10FFFh bytes: 5"
abbrev pub P12 : Type 0
P12 = maps.P12
