-- A run's answer as a number, and a bundle with the image of the state that it leaves.
use Rattle.std.specs.Prelude.{ℕ, ◌-◌, ◌^◌, Bool, cond, ◌||◌, List, ltb, Err, Ok, Result}
use Rattle.run.specs.declared.TooShort.{TooShort}
use Rattle.run.specs.Run.{too_short, ran_of, end_mmu_of}
use Rattle.image.specs.Image.{image_bytes, put_state}

-- the bytes of output, or 2^64 - 1 where a buffer is too short
unfoldable pub ran_number : Result ℕ TooShort → ℕ
ran_number (Ok n) = n
ran_number (Err _) = 2 ^ 64 - 1

-- whether a buffer is too short: the state's is one of them
abbrev pub state_short : List ℕ → ℕ → ℕ → ℕ → Bool
state_short file ram out state = ltb state image_bytes || too_short file ram out

abbrev pub state_ran : List ℕ → ℕ → ℕ → ℕ → Result ℕ TooShort
state_ran file ram out state = cond (ltb state image_bytes) (Err (record {})) (ran_of file ram out)

abbrev pub state_buffer : Bool → List ℕ → List ℕ → List ℕ
state_buffer short file state = cond short state (put_state (end_mmu_of file) state)
