-- A list of records on a state that is held as its image: what is answered, and what it leaves in the image, in RAM and in the output buffer. The
-- records are the bundle's bytes. 8 is given where bytes are no image or no records.
use Rattle.std.specs.Prelude.{ℕ, ◌/◌, ◌%◌, Bool, cond, ◌&&◌, List, eqb, leb, ltb, length, Err, Ok, Result, ⊤}
use Rattle.run.specs.declared.TooShort.{TooShort}
use Rattle.scheme.specs.declared.refusal.Refusal.{Refusal}
use Rattle.scheme.specs.Scheme.{bought_of}
use Rattle.scheme.specs.declared.refusal.Refusal.TheVariants.{BadScheme, Unfit}
use Rattle.entry.specs.Geometry.{default_config}
use Rattle.state.specs.State.{fit_of, state_new}
use Rattle.state.specs.declared.Mmu.{Mmu}
use Rattle.session.specs.Session.{end_mmu, end_ram}
use Rattle.session.specs.declared.Event.{Event}
use Rattle.layout.specs.Layout.{records_ok}
use Rattle.std.specs.Result.{result_and}
use Rattle.text.specs.Lines.{refused_line}
use Rattle.steps.specs.Steps.{events_from, text_from}
use Rattle.bundle_run.specs.Parts.{room_of}
use Rattle.image.specs.Image.{put_state}
use Rattle.image_read.specs.Reading.{state_read}
use Rattle.imaged.specs.Imaged.{laid_out, on_state}

-- "Accesses, 8 bytes each, at most 3,000", each as in a bundle
unfoldable pub records_given : List ℕ → Bool
records_given records =
    leb (length records) 24000 && (eqb (length records % 8) 0 && records_ok 8 records 0 (length records / 8))

-- 3 where the state is unfit, then 1 where its scheme is none of document 01's: a bundle's records have addresses of 32 bits
unfoldable pub fit_said : Mmu → Result ⊤ Refusal
fit_said m = cond (fit_of m) (cond (bought_of m.scheme) (Ok tt) (Err BadScheme)) (Err Unfit)

-- a state, unless it is refused
abbrev pub fitting : Result Mmu Refusal → Result Mmu Refusal
fitting (Ok m) = result_and (fit_said m) (Ok m)
fitting (Err why) = Err why

-- the image's state, or 8, then 3, then 1: "every call on a state tests 3 first"; once the first is granted no other is refused
unfoldable pub opened_of : List ℕ → List ℕ → Result Mmu Refusal
opened_of image records = fitting (laid_out (records_given records) (state_read image))

abbrev pub opened_said : List ℕ → List ℕ → Result ⊤ Refusal
opened_said image records = result_and (opened_of image records) (Ok tt)

-- the state that an image holds, and the state of a new MMU with the default configuration where the bytes are no image
abbrev pub image_state : List ℕ → Mmu
image_state image = on_state (state_read image) (λ m. m) (state_new default_config)

abbrev pub events_of : List ℕ → List Event
events_of records = events_from records 0 (length records / 8)

-- "A refusal prints `refused N` alone"
abbrev pub printed_on : Result Mmu Refusal → List Event → List ℕ → List ℕ
printed_on (Ok m) es ram = text_from es m ram
printed_on (Err why) es ram = refused_line why

abbrev pub records_text : List ℕ → List ℕ → List ℕ → List ℕ
records_text image records ram = printed_on (opened_of image records) (events_of records) ram

abbrev pub records_ram : List ℕ → List ℕ → List ℕ → List ℕ
records_ram image records ram = on_state (opened_of image records) (λ m. end_ram (events_of records) m ram) ram

abbrev pub records_image : List ℕ → List ℕ → List ℕ → List ℕ
records_image image records ram =
    on_state (opened_of image records) (λ m. put_state (end_mmu (events_of records) m ram) image) image

-- whether the output buffer, of out bytes, is too short
abbrev pub records_short : List ℕ → List ℕ → ℕ → Bool
records_short image records out = ltb out (room_of (opened_said image records) (length records / 8))

abbrev pub records_ran : List ℕ → List ℕ → List ℕ → ℕ → Result ℕ TooShort
records_ran image records ram out =
    cond (records_short image records out) (Err (record {})) (Ok (length (records_text image records ram)))
