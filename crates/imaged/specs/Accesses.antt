-- One access on a state that is held as its image: who asks, by numbers; what is answered and told of it, and left in the image and in RAM.
use Rattle.std.specs.Prelude.{ℕ, Bool, cond, ◌&&◌, List, ◌++◌, leb, ltb, length, Err, Ok, Result, ⊤}
use Rattle.access.specs.declared.Denied.{Denied}
use Rattle.access.specs.declared.Place.{Place}
use Rattle.scheme.specs.declared.refusal.Refusal.{Refusal}
use Rattle.std.proofs.lemmas.List.Edits.{sets}
use Rattle.scheme.specs.Refusals.{on_grant}
use Rattle.scheme.specs.declared.refusal.Refusal.TheVariants.{BadLayout}
use Rattle.walk.specs.declared.Access.{Access}
use Rattle.access.specs.declared.Answer.{Answer}
use Rattle.state.specs.declared.Mmu.{Mmu}
use Rattle.access.specs.Translate.{cause_in}
use Rattle.mmu.specs.Calls.{translate_of, translate_ram}
use Rattle.layout.specs.Layout.{privilege_ok}
use Rattle.bundle.specs.Codes.{access_of, mode_of}
use Rattle.entry_image.specs.EntryImage.{le_bytes}
use Rattle.image.specs.Image.{put_state}
use Rattle.image_read.specs.Reading.{state_read}
use Rattle.imaged.specs.Imaged.{said_number, laid_out, on_state}

-- ---- who asks

-- "access (0 fetch, 1 load, 2 store), privilege (0 U, 1 S, 3 M)"
abbrev pub access_given : ℕ → ℕ → Bool
access_given kind mode = leb kind 2 && privilege_ok mode

abbrev pub access_by : ℕ → ℕ → ℕ → Access
access_by va kind mode = record { vaddr = va; kind = access_of kind; mode = mode_of mode }

-- ---- what is told

-- u32 cause, 0 where there is none; u64 address, 0 on a fault; u32 words asked for
unfoldable pub told_bytes : ℕ → ℕ → ℕ → List ℕ
told_bytes cause place words = le_bytes 4 cause ++ (le_bytes 8 place ++ le_bytes 4 words)

abbrev pub outcome_place : Result Place Denied → ℕ
outcome_place (Ok p) = p.paddr
outcome_place (Err (Denied.Fault f)) = 0
outcome_place (Err (Denied.Refused why)) = 0

abbrev pub outcome_stall : Result Place Denied → ℕ
outcome_stall (Ok p) = p.stall
outcome_stall (Err (Denied.Fault f)) = 0
outcome_stall (Err (Denied.Refused why)) = 0

-- and u32 stall, 0 on a fault
unfoldable pub answer_told : Answer → List ℕ
answer_told a = told_bytes (cause_in a.outcome) (outcome_place a.outcome) a.words ++ le_bytes 4 (outcome_stall a.outcome)

-- ---- what is answered and left

-- "A page fault is no refusal"
abbrev pub outcome_said : Result Place Denied → Result ⊤ Refusal
outcome_said (Ok p) = Ok tt
outcome_said (Err (Denied.Fault f)) = Ok tt
outcome_said (Err (Denied.Refused why)) = Err why

-- on a state
module _ (m : Mmu) (q : Access) (ram : List ℕ) where
  unfoldable pub served_said : Result ⊤ Refusal
  served_said = outcome_said (translate_of m q ram).said.outcome

  unfoldable pub served_image : List ℕ → List ℕ
  served_image image = on_grant served_said (put_state (translate_of m q ram).mmu image) image

  unfoldable pub served_told : List ℕ → List ℕ
  served_told told = on_grant served_said (sets told 0 (answer_told (translate_of m q ram).said)) told

-- on an image: 255 where `told` has fewer than 20 bytes, 8 where a number is none of theirs or the bytes are no image, then `translate`'s own, 3
-- and 10. Nothing is left but by an access that is served
module _ (image : List ℕ) (va kind mode : ℕ) (ram told : List ℕ) where
  abbrev pub given : Result Mmu Refusal
  given = laid_out (access_given kind mode) (state_read image)

  unfoldable pub translated_number : ℕ
  translated_number =
      cond (ltb (length told) 20) 255 (said_number (on_state given (λ m. served_said m (access_by va kind mode) ram) (Err BadLayout)))

  unfoldable pub translated_image : List ℕ
  translated_image = cond (ltb (length told) 20) image (on_state given (λ m. served_image m (access_by va kind mode) ram image) image)

  unfoldable pub translated_ram : List ℕ
  translated_ram = cond (ltb (length told) 20) ram (on_state given (λ m. translate_ram m (access_by va kind mode) ram) ram)

  unfoldable pub translated_told : List ℕ
  translated_told = cond (ltb (length told) 20) told (on_state given (λ m. served_told m (access_by va kind mode) ram told) told)
