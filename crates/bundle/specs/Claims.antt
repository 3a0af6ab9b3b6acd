-- What holds of every file that is granted, and so good: its parts lie inside it, and the numbers of what is read are the file's own bytes.
-- proofs/Claims.antt has a proof of each.
use Rattle.std.specs.Prelude.{ℕ, ◌+◌, ◌*◌, ◌≤◌, ◌<◌, ◌≡◌, true, List, [], ◌∷◌, length, get_or, Ok, Some}
use Rattle.memory.specs.Word.{le_at}
use Rattle.entry.specs.Entry.{policy_number}
use Rattle.plan.specs.Map.{flag, flags_of}
use Rattle.layout.specs.Layout.{byte_at, good_of}
use Rattle.session.specs.declared.Settings.{Settings}
use Rattle.bundle.specs.declared.MapBody.{MapBody}
use Rattle.bundle.specs.declared.Parts.{Parts}
use Rattle.session.specs.declared.Event.{Event}
use Rattle.session.specs.declared.Event.TheVariants.{Translate, Flush, FlushAt}
use Rattle.bundle.specs.Codes.{access_number, mode_number, rule_number, kind_number, mib_number}
use Rattle.bundle.specs.Parts.{event_at, parts_of, read_of}

-- the parts that are read are those of a good file
abbrev pub GrantedIsGood : Type 0
GrantedIsGood = (s : List ℕ) (p : Parts) → read_of s ≡ Ok p → (good_of s ≡ true) × (p ≡ parts_of s)

-- "RAM, at most 32,768 bytes. Accesses, 8 bytes each, at most 3,000", and "the file ends with the last"
pub record Inside (s : List ℕ) (p : Parts) : Type 0 where
  pub ram : p.ram_start + p.ram_len ≤ length s
  pub ram_most : p.ram_len ≤ 32768
  pub accesses : p.first + 8 * p.count ≡ length s
  pub accesses_most : p.count ≤ 3000

abbrev pub PartsInside : Type 0
PartsInside = (s : List ℕ) → good_of s ≡ true → Inside s (parts_of s)

-- "switches (1 enabled, 2 force, 4 TLB on)"
abbrev pub switch_number : Settings → ℕ
switch_number t = flag 0 t.enabled + flag 1 t.force + flag 2 t.tlb_on

abbrev pub SettingsAsGiven : Type 0
SettingsAsGiven =
    (s : List ℕ) → good_of s ≡ true
    → (policy_number (parts_of s).config.replacement ≡ byte_at s 61)
    × (switch_number (parts_of s).settings ≡ byte_at s 64)

-- the numbers of a map, its flags with a leaf's V added
abbrev pub map_numbers : MapBody → List ℕ
map_numbers m =
    rule_number m.spec.rule
    ∷ kind_number m.spec.kind
    ∷ flags_of m.spec.perms m.spec.global
    ∷ mib_number m.spec.kind
    ∷ []

-- those of the map in the file
abbrev pub given_map : List ℕ → List ℕ
given_map s = byte_at s 72 ∷ byte_at s 73 ∷ (1 + byte_at s 74) ∷ le_at 4 s 76 ∷ []

abbrev pub MapAsGiven : Type 0
MapAsGiven =
    (s : List ℕ) (m : MapBody) → ((k : ℕ) → get_or s k 0 < 256) → good_of s ≡ true → (parts_of s).map ≡ Some m
    → map_numbers m ≡ given_map s

-- "operation (0 translate, 1 flush, 2 flush address)"
abbrev pub operation_number : Event → ℕ
operation_number (Translate q) = 0
operation_number Flush = 1
operation_number (FlushAt va) = 2

-- the numbers of a record: "address, access, privilege, operation .. Unused fields are 0"
abbrev pub event_numbers : Event → List ℕ
event_numbers (Translate q) =
    q.vaddr ∷ access_number q.kind ∷ mode_number q.mode ∷ operation_number (Translate q) ∷ []
event_numbers Flush = 0 ∷ 0 ∷ 0 ∷ operation_number Flush ∷ []
event_numbers (FlushAt va) = va ∷ 0 ∷ 0 ∷ operation_number (FlushAt va) ∷ []

-- those of the record at a place in the file
abbrev pub given_record : List ℕ → ℕ → List ℕ
given_record s p = le_at 4 s p ∷ byte_at s (p + 4) ∷ byte_at s (p + 5) ∷ byte_at s (p + 6) ∷ []

abbrev pub EventsAsGiven : Type 0
EventsAsGiven =
    (s : List ℕ) (i p : ℕ) → good_of s ≡ true → i < (parts_of s).count → p ≡ (parts_of s).first + 8 * i
    → event_numbers (event_at s p) ≡ given_record s p
