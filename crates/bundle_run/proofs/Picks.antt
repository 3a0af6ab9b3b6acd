-- How an answer picks a text, a RAM or a room.
use Rattle.std.specs.Prelude.{Err, None, Ok, Option, Result, Some, ⊤}
use Rattle.bundle.specs.declared.MapBody.{MapBody}
use mathlib.Core.Path.{◌≡◌}
use mathlib.Core.List.{List}
use Prim.Native.Nat.{ℕ, ◌+◌, ◌*◌}
use native.Mathlib.Omega.{arith}
use Rattle.scheme.specs.Refusals.{on_grant}
use Rattle.scheme.specs.declared.PagingScheme.{PagingScheme}
use Rattle.scheme.specs.declared.refusal.Refusal.{Refusal}
use Rattle.installer.specs.Install.{install_ram}
use Rattle.text.specs.Lines.{refused_line}
use Rattle.bundle_run.specs.Parts.{map_said, map_ram, printed, room_of}

module _ {said : Result ⊤ Refusal} {why : Refusal} (e : said ≡ Err why) where
  pub end_refused : {A : Type 0} (new old : A) → on_grant said new old ≡ old
  unfolding on_grant
  end_refused new old = rw e

  pub text_refused : (text : List ℕ) → printed said text ≡ refused_line why
  unfolding printed
  text_refused text = rw e

  pub room_refused : (n : ℕ) → room_of said n ≡ 11
  unfolding room_of
  room_refused n = rw e

module _ {said : Result ⊤ Refusal} (e : said ≡ Ok tt) where
  pub end_granted : {A : Type 0} (new old : A) → on_grant said new old ≡ new
  unfolding on_grant
  end_granted new old = rw e

  pub text_granted : (text : List ℕ) → printed said text ≡ text
  unfolding printed
  text_granted text = rw e

  pub room_granted : (n : ℕ) → room_of said n ≡ 25 * n + 113
  unfolding room_of
  room_granted n = rw e

-- a map that is refused leaves RAM as it was
pub refused_map : (s : PagingScheme) (map : Option MapBody) (ram : List ℕ) {why : Refusal} → map_said s map ram ≡ Err why → map_ram s map ram ≡ ram
unfolding install_ram
refused_map s None ram e = let z : ◌≡◌ {A = ℕ} 0 1 = cc in absurd (omega arith)
refused_map s (Some b) ram e = end_refused e _ ram
