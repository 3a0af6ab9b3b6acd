-- Each claim of specs/Claims.antt: the layout's tests (`Fits`, `Good`), and the numbers that they let through (`Numbers`).
use Rattle.std.specs.Prelude.{Err, None, Ok, Result, Some}
use Prim.Native.Nat.{ℕ, ◌+◌, ◌<◌}
use native.Mathlib.Omega.{arith}
use mathlib.Core.Path.{◌≡◌, refl, sym}
use mathlib.Core.Bool.{Bool, true, false, cond, and-eq-true_iff}
use mathlib.Core.List.{List}
use lib.Dec.{eqb, leb}
use lib.ListN.{get_or}
use borrow.Author.Tests.{eqb-true, eqb-false, leb-true}
use Rattle.memory.specs.Word.{le_at}
use Rattle.memory.proofs.Laws.{word_lt}
use Rattle.scheme.specs.declared.refusal.Refusal.{Refusal}
use Rattle.scheme.specs.declared.refusal.Refusal.TheVariants.{BadLayout}
use Rattle.plan.specs.Map.{flags_of}
use Rattle.layout.specs.Layout.{byte_at, map_len, unused_ok, settings_ok, flag_bits_ok, map_ok, good_of}
use Rattle.layout.proofs.Fits.{good_fits}
use Rattle.layout.proofs.Good.{good_settings, good_map, good_record}
use Rattle.bundle.specs.declared.Parts.{Parts}
use Rattle.bundle.specs.Parts.{body_at, parts_of, read_of}
use Rattle.bundle.specs.Claims.{GrantedIsGood, PartsInside, SettingsAsGiven, map_numbers, given_map, MapAsGiven, EventsAsGiven}
use Rattle.bundle.proofs.Numbers.{policy_number_lem, rule_number_lem, kind_number_lem, mib_number_lem}
use Rattle.bundle.proofs.Numbers.{switch_number_lem, flags_number, event_numbers_lem}

pub granted_is_good : GrantedIsGood
unfolding read_of
granted_is_good s p e = go (good_of s) e
  where
    go : (b : Bool) → ◌≡◌ {A = Result Parts Refusal} (cond b (Ok (parts_of s)) (Err BadLayout)) (Ok p) → (b ≡ true) × (p ≡ parts_of s)
    go true h = (refl, cc)
    go false h = let z : ◌≡◌ {A = ℕ} 0 1 = cc in absurd (omega arith)

pub parts_inside : PartsInside
unfolding parts_of
parts_inside s e =
    let f = good_fits s e in
    record {
      ram = omega (arith, f.whole);
      ram_most = f.ram_len_fits;
      accesses = omega (arith, f.whole, f.access_whole);
      accesses_most = omega (arith, f.access_len_fits);
    }

pub settings_as_given : SettingsAsGiven
unfolding parts_of settings_ok
settings_as_given s e =
    let widths = (and-eq-true_iff (unused_ok s 54 (byte_at s 53)) _).0 (good_settings s e) in
    let policy = (and-eq-true_iff (leb (byte_at s 61) 5) _).0 widths.1 in
    let switches = (and-eq-true_iff (leb (byte_at s 64) 7) _).0 policy.1 in (
      policy_number_lem (byte_at s 61) (leb-true _ _ policy.0),
      switch_number_lem (byte_at s 64) (leb-true _ _ switches.0),
    )

-- a good map's body has the file's numbers
body_as_given : (s : List ℕ) → ((k : ℕ) → get_or s k 0 < 256) → map_ok s 72 ≡ true → map_numbers (body_at s 72) ≡ given_map s
unfolding map_ok flags_of
body_as_given s bytes e =
    let rule = (and-eq-true_iff (leb (byte_at s 72) 1) _).0 e in
    let kind = (and-eq-true_iff (leb (byte_at s 73) 1) _).0 rule.1 in
    let flags = (and-eq-true_iff (flag_bits_ok (byte_at s 74)) _).0 kind.1 in
    let both = (and-eq-true_iff (leb (byte_at s 74) 63) _).0 flags.0 in
    let mib = (and-eq-true_iff (eqb (byte_at s 75) 0) _).0 flags.1 in
    rw (
      rule_number_lem (byte_at s 72) (leb-true _ _ rule.0),
      kind_number_lem (byte_at s 73) (le_at 4 s 76) (leb-true _ _ kind.0),
      flags_number (byte_at s 74) (leb-true _ _ both.0) (eqb-true _ _ both.1),
      mib_number_lem (byte_at s 73) (le_at 4 s 76) (word_lt 4 s 76 bytes) mib.1,
    )

pub map_as_given : MapAsGiven
unfolding parts_of
map_as_given s m bytes e is = go (eqb (map_len s) 0) refl is
  where
    go : (b : Bool) → eqb (map_len s) 0 ≡ b → cond b None (Some (body_at s 72)) ≡ Some m → map_numbers m ≡ given_map s
    go true z is = let y : ◌≡◌ {A = ℕ} 0 1 = cc in absurd (omega arith)
    go false z is =
        let same : body_at s 72 ≡ m = cc in
        rw (sym same) (body_as_given s bytes (good_map s (eqb-false _ _ z) e))

pub events_as_given : EventsAsGiven
unfolding parts_of
events_as_given s i p e h at =
    event_numbers_lem (le_at 4 s p) (byte_at s (p + 4)) (byte_at s (p + 5)) (byte_at s (p + 6)) (good_record s i p at h e)
