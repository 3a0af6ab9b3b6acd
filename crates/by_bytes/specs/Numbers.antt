-- What is asked for with bytes and numbers alone, and answered with a number: the map, one walk, and a question. Schemes and maps are the
-- bundle's bytes.
use Rattle.std.specs.Prelude.{ℕ, Bool, cond, ◌&&◌, List, eqb, ltb, length, Err, Ok, Result, ⊤}
use Rattle.scheme.specs.declared.refusal.Refusal.{Refusal}
use Rattle.walk.specs.declared.PageFault.{PageFault}
use Rattle.walk.specs.declared.WalkResult.{WalkResult}
use Rattle.std.proofs.lemmas.List.Edits.{sets}
use Rattle.scheme.specs.Refusals.{number_of}
use Rattle.scheme.specs.Scheme.{root_pa}
use Rattle.scheme.specs.declared.refusal.Refusal.TheVariants.{BadLayout}
use Rattle.walk.specs.Answer.{walk_reply, walk_ram}
use Rattle.walk.specs.declared.WalkAnswer.{WalkAnswer}
use Rattle.installer.specs.Install.{install_said, install_ram}
use Rattle.layout.specs.Layout.{map_ok}
use Rattle.bundle.specs.Parts.{scheme_at, body_at}
use Rattle.imaged.specs.Accesses.{access_given, access_by, told_bytes}
use Rattle.imaged.specs.Imaged.{laid_out}

-- ---- the map

-- six bytes of a scheme and twenty of a map
unfoldable pub map_given : List ℕ → List ℕ → Bool
map_given scheme map = eqb (length scheme) 6 && (eqb (length map) 20 && map_ok map 0)

abbrev pub installed_said : List ℕ → List ℕ → List ℕ → Result ⊤ Refusal
installed_said scheme map ram =
    laid_out (map_given scheme map)
    (install_said (scheme_at scheme 0) (body_at map 0).spec (body_at map 0).window (body_at map 0).root ram)

abbrev pub installed_ram : List ℕ → List ℕ → List ℕ → List ℕ
installed_ram scheme map ram =
    cond (map_given scheme map)
    (install_ram (scheme_at scheme 0) (body_at map 0).spec (body_at map 0).window (body_at map 0).root ram)
    ram

-- ---- one walk

-- six bytes of a scheme, and numbers for kind and privilege
unfoldable pub walk_given : List ℕ → ℕ → ℕ → Bool
walk_given scheme kind mode = eqb (length scheme) 6 && access_given kind mode

-- what a walk tells
abbrev pub told_cause : Result WalkResult PageFault → ℕ
told_cause (Ok r) = 0
told_cause (Err f) = f.cause

abbrev pub told_place : Result WalkResult PageFault → ℕ
told_place (Ok r) = r.paddr
told_place (Err f) = 0

unfoldable pub walk_told : WalkAnswer → List ℕ
walk_told a = told_bytes (told_cause a.answer) (told_place a.answer) a.words

abbrev pub reply_number : Result WalkAnswer Refusal → ℕ
reply_number (Ok a) = 0
reply_number (Err why) = number_of why

abbrev pub reply_told : Result WalkAnswer Refusal → List ℕ → List ℕ
reply_told (Ok a) told = sets told 0 (walk_told a)
reply_told (Err why) told = told

-- 255 where `told` has fewer than 16 bytes, then 8, then the walk's own
module _ (scheme : List ℕ) (root va kind mode : ℕ) (ram told : List ℕ) where
  abbrev pub reply_here : Result WalkAnswer Refusal
  reply_here = walk_reply (scheme_at scheme 0) root ram (access_by va kind mode)

  unfoldable pub walk_number : ℕ
  walk_number = cond (ltb (length told) 16) 255 (cond (walk_given scheme kind mode) (reply_number reply_here) (number_of BadLayout))

  unfoldable pub told_after : List ℕ
  told_after = cond (ltb (length told) 16) told (cond (walk_given scheme kind mode) (reply_told reply_here told) told)

  unfoldable pub ram_after : List ℕ
  ram_after =
      cond (ltb (length told) 16) ram
      (cond (walk_given scheme kind mode) (walk_ram (scheme_at scheme 0) root ram (access_by va kind mode)) ram)

-- ---- a question

-- the root, which is a multiple of 4096; where it is refused the number, which is none
unfoldable pub asked_number : Result ℕ Refusal → ℕ
asked_number (Ok n) = n
asked_number (Err why) = number_of why

abbrev pub root_number : List ℕ → ℕ → ℕ
root_number scheme size = cond (eqb (length scheme) 6) (asked_number (root_pa (scheme_at scheme 0) size)) (number_of BadLayout)
