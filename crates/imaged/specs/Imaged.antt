-- Calls on a state that is held as its image: what each answers, and what it leaves in the image. Schemes and configurations are the bundle's
-- bytes. 8 is given where bytes are no image, or have another length. One access is in Accesses.antt.
use Rattle.std.specs.Prelude.{ℕ, Bool, true, cond, ◌&&◌, List, eqb, leb, length, ◌≡◌, Err, MatchResult, Ok, Result, ⊤}
use Rattle.scheme.specs.declared.refusal.Refusal.{Refusal}
use Rattle.scheme.specs.Refusals.{number_of, on_grant}
use Rattle.scheme.specs.declared.refusal.Refusal.TheVariants.{BadLayout}
use Rattle.entry.specs.Geometry.{default_config}
use Rattle.state.specs.State.{state_new}
use Rattle.state.specs.declared.Mmu.{Mmu}
use Rattle.mmu.specs.Calls.{refused_with, new_of, set_scheme_of, reconfigure_of, flush_of, flush_vaddr_of}
use Rattle.mmu.specs.declared.Kept.{Kept}
use Rattle.layout.specs.Layout.{byte_at}
use Rattle.bundle.specs.Parts.{scheme_at, config_at}
use Rattle.image.specs.Image.{room_in, put_state}
use Rattle.image_read.specs.Reading.{state_read}

-- the refusal's number, or 0
abbrev pub said_number : Result ⊤ Refusal → ℕ
said_number (Ok _) = 0
said_number (Err why) = number_of why

-- 8 unless a test holds, and then what comes next
unfoldable pub laid_out : {A : Type 0} → Bool → Result A Refusal → Result A Refusal
laid_out good next = cond good next (Err BadLayout)

-- what comes of a state, and what is there without one
abbrev pub on_state : {A : Type 0} → Result Mmu Refusal → (Mmu → A) → A → A
on_state (Ok m) new old = new m
on_state (Err why) new old = old

-- the image after a call: the state that it leaves where it was granted, and else the bytes as they were
abbrev pub kept_in : Kept → List ℕ → List ℕ
kept_in k image = on_grant k.said (put_state k.mmu image) image

-- ---- a new state, a scheme, a configuration, a flush

-- a call on a state, if the call's own bytes are laid out: a refusal hands the state back. Where there is none the default one stands there
abbrev pub called_with : Bool → (Mmu → Kept) → Result Mmu Refusal → Kept
called_with good call (Ok m) = cond good (call m) (refused_with BadLayout m)
called_with good call (Err why) = refused_with why (state_new default_config)

-- a call on the image's state
abbrev pub called_on : Bool → List ℕ → (Mmu → Kept) → Kept
called_on good image call = called_with good call (state_read image)

-- what is answered and left in the image: by what the call gives of the image's state, and 8 where the bytes are no image
abbrev pub CalledOn : (Mmu → Kept → Type 0) → List ℕ → ℕ → List ℕ → Type 0
CalledOn Gives image r after =
    MatchResult
    (state_read image)
    (λ m. (k : Kept) × Gives m k × (r ≡ said_number k.said) × (after ≡ kept_in k image))
    (λ why. (r ≡ 8) × (after ≡ image))

abbrev pub schemed_of : List ℕ → List ℕ → Kept
schemed_of image scheme = called_on (eqb (length scheme) 6) image (λ m. set_scheme_of m (scheme_at scheme 0))

-- six bytes, "policy (0 Lru, .., 5 Random)" among them
abbrev pub config_given : List ℕ → Bool
config_given config = eqb (length config) 6 && leb (byte_at config 3) 5

-- `new` into a buffer: 255 where it has no room for an image, then 8, then 2. A refusal leaves it as it was
unfoldable pub made_number : List ℕ → List ℕ → ℕ
made_number config image = cond (room_in image) (said_number (laid_out (config_given config) (new_of (config_at config 0)).said)) 255

unfoldable pub made_image : List ℕ → List ℕ → List ℕ
made_image config image = cond (room_in image && config_given config) (kept_in (new_of (config_at config 0)) image) image

abbrev pub configured_of : List ℕ → List ℕ → Kept
configured_of image config = called_on (config_given config) image (λ m. reconfigure_of m (config_at config 0))

abbrev pub flushed_of : List ℕ → Kept
flushed_of image = called_on true image (λ m. flush_of m)

abbrev pub flushed_at_of : List ℕ → ℕ → Kept
flushed_at_of image va = called_on true image (λ m. flush_vaddr_of m va)
