-- A proof of each statement in specs/Claims.antt.
use Rattle.std.specs.Prelude.{Err, None, Ok, Option, Result, Some, ⊤}
use Rattle.bundle.specs.declared.MapBody.{MapBody}
use Prim.Native.Nat.{ℕ, ◌+◌, ◌≤◌, ◌<◌}
use mathlib.Core.Path.{◌≡◌, refl, sym, ap, ◌∙◌, subst}
use mathlib.Core.Bool.{Bool, true, false, cond, ◌||◌}
use mathlib.Core.List.Perm
use mathlib.Core.List.{List}
use native.Mathlib.Omega.{arith}
use native.Mathlib.Nat.{le_trans, min-le_left}
use lib.Dec.{eqb, ltb}
use lib.ListN.{length, get_or, take, drop, length-take, get_or-eq_default}
use lib.Seq.{get_or-take, get_or-drop, take_all, length-take-le}
use borrow.Author.Tests.{ltb-true, ltb-false, eqb-true, eqb-false, le-ltb}
use Rattle.scheme.specs.Scheme.{bought_of, valid_of}
use Rattle.scheme.specs.declared.PagingScheme.{PagingScheme}
use Rattle.scheme.specs.declared.refusal.Refusal.{Refusal}
use Rattle.scheme.specs.declared.refusal.Refusal.TheVariants.{BadScheme, BadLayout}
use Rattle.scheme.proofs.Widths.{bought}
use Rattle.entry.specs.declared.TlbConfig.{TlbConfig}
use Rattle.mmu.specs.Calls.{room_for, new_of, granted_with, refused_with}
use Rattle.state.specs.declared.Mmu.{Mmu}
use Rattle.session.specs.Session.{settings_said, start_of}
use Rattle.session.specs.declared.Settings.{Settings}
use Rattle.order.specs.Claims.{ModeGiven, Empty, Ready}
use Rattle.walks.specs.Plain.{Bytes}
use Rattle.order.proofs.Claims.{start_is_empty, any_order, none_but_ten}
use Rattle.order.proofs.Fit.{mode_01}
use Rattle.maps.proofs.Claims.{bytes_stay}
use Rattle.text.specs.Lines.{refused_line}
use Rattle.layout.specs.Layout.{map_len, good_of}
use Rattle.layout.proofs.Fits.{good_fits}
use Rattle.bundle.specs.Parts.{parts_of, read_of}
use Rattle.bundle.specs.declared.Parts.{Parts}
use Rattle.bundle.proofs.Claims.{granted_is_good}
use Rattle.bundle_run.specs.Parts.{bundle_said, bundle_start, map_ram, room_of}
use Rattle.run.specs.Run.{of_read, parts_said, parts_start, output_of}
use Rattle.run.proofs.Laws.{read_inside}
use Rattle.traces.specs.Claims.{events_in, ram_in, NothingRefused, EachIsPlain, BuffersFit, CutIsEnough}

-- what a test let through
module _ (test : Bool) (next : Result ⊤ Refusal) (e : cond test next (Err BadScheme) ≡ Ok tt) where
  let_through : (test ≡ true) × (next ≡ Ok tt)
  let_through = go test next e
    where
      go : (b : Bool) (n : Result ⊤ Refusal) → cond b n (Err BadScheme) ≡ Ok tt → (b ≡ true) × (n ≡ Ok tt)
      go true n h = (refl, h)
      go false n h = let z : ◌≡◌ {A = ℕ} 0 1 = cc in absurd (omega arith)

module _ (config : TlbConfig) (t : Settings) (e : bundle_said config t ≡ Ok tt) where
  is_bought : (bought_of t.scheme ≡ true) × (settings_said config t ≡ Ok tt)
  unfolding bundle_said
  is_bought = let_through (bought_of t.scheme) _ e

  new_granted : (new_of config).said ≡ Ok tt
  unfolding settings_said
  new_granted = (let_through (valid_of t.scheme) _ is_bought.1).1

  start_is : bundle_start config t ≡ start_of config t
  unfolding bundle_start
  start_is = rw is_bought.0

-- `new` grants a configuration with room
granted_if : (b : Bool) (m n : Mmu) (why : Refusal) → (cond b (granted_with m) (refused_with why n)).said ≡ Ok tt → b ≡ true
granted_if true m n why h = refl
granted_if false m n why h = let z : ◌≡◌ {A = ℕ} 0 1 = cc in absurd (omega arith)

new_room : (config : TlbConfig) → (new_of config).said ≡ Ok tt → room_for config ≡ true
unfolding new_of
new_room config e = granted_if (room_for config) _ _ _ e

-- what the settings that were read are where they are not refused
module _ (s : List ℕ) (p : Parts) (r : read_of s ≡ Ok p) (e : parts_said p ≡ Ok tt) where
  -- the file's widths are four
  four : length p.settings.scheme.level_bits ≡ 4
  unfolding parts_of
  four = ap (λ (x : Parts). length x.settings.scheme.level_bits) (granted_is_good s p r).1

  ready : Ready p.settings
  ready =
      let b = (is_bought p.config p.settings e).0 in
      record {
        valid = bought p.settings.scheme b;
        mode = mode_01 p.settings.scheme p.settings.satp b;
        four = four;
      }

  empty : Empty p.settings (parts_start p)
  empty =
      rw (start_is p.config p.settings e)
      (start_is_empty p.settings ready p.config (new_room _ (new_granted p.config p.settings e)))

pub nothing_refused : NothingRefused
nothing_refused s p r e =
    let start = empty s p r e in
    let run = none_but_ten (events_in s p) (parts_start p) (ram_in s p) start.fit in
    (run.none (subst (λ (x : Settings). ModeGiven x.scheme x.satp) (sym start.settings) start.mode), run.fit)

-- ---- the answers

take_short : (n : ℕ) (l : List ℕ) (k : ℕ) → n ≤ k → length (take n l) ≤ k
take_short n l k h = rw (length-take n l) (le_trans (min-le_left n (length l)) h)

-- a part of some bytes is bytes
part_bytes : (n m : ℕ) (s : List ℕ) → Bytes s → Bytes (take n (drop m s))
part_bytes n m s small k = go (ltb k n) refl
  where
    go : (b : Bool) → ltb k n ≡ b → get_or (take n (drop m s)) k 0 < 256
    go true e = rw (get_or-take n (drop m s) k 0 (ltb-true k n e), get_or-drop m s k 0) (small (m + k))
    go false e = rw (get_or-eq_default (take n (drop m s)) 0 {n = k} (take_short n (drop m s) k (ltb-false k n e))) (omega arith)

map_bytes : (s : PagingScheme) (m : Option MapBody) (ram : List ℕ) → Bytes ram → Bytes (map_ram s m ram)
map_bytes s None ram small = small
map_bytes s (Some b) ram small = bytes_stay s b.spec b.window b.root ram small

pub each_is_plain : EachIsPlain
each_is_plain s p small r e =
    let bytes = map_bytes p.settings.scheme p.map _ (part_bytes p.ram_len p.ram_start s small) in
    (any_order p.settings (ram_in s p) bytes _ _ (empty s p r e) (empty s p r e) (events_in s p) (events_in s p) Perm.rfl).0.each

-- ---- the program's buffers

room_most : (said : Result ⊤ Refusal) (n : ℕ) → n ≤ 3000 → room_of said n ≤ 75113
unfolding room_of
room_most (Ok _) n h = omega arith
room_most (Err why) n h = omega arith

pub buffers_fit : BuffersFit
unfolding of_read
buffers_fit s = go (read_of s) refl
  where
    go : (r : Result Parts Refusal) → read_of s ≡ r
        → of_read r (λ why. ltb 75113 11) (λ p. ltb 75113 (room_of (parts_said p) p.count) || ltb 32768 p.ram_len) ≡ false
    go (Err why) e = refl
    go (Ok p) e =
        let h = read_inside e in
        rw (le-ltb 75113 _ (room_most (parts_said p) p.count h.accesses_most), le-ltb 32768 p.ram_len h.ram_most)

-- ---- files that are too long

-- a good file has at most 56,860 bytes
good_short : (s : List ℕ) → good_of s ≡ true → length s ≤ 56860
good_short s e = go (eqb (map_len s) 0) refl
  where
    go : (b : Bool) → eqb (map_len s) 0 ≡ b → length s ≤ 56860
    go true z = let f = good_fits s e in omega (arith, f.whole, f.ram_len_fits, f.access_len_fits, eqb-true (map_len s) 0 z)
    go false z = let f = good_fits s e in omega (arith, f.whole, f.ram_len_fits, f.access_len_fits, f.map_len_fits (eqb-false (map_len s) 0 z))

long_bad : (s : List ℕ) → 56860 < length s → good_of s ≡ false
long_bad s h = go (good_of s) refl
  where
    go : (b : Bool) → good_of s ≡ b → b ≡ false
    go true e = absurd (omega (arith, good_short s e))
    go false e = refl

bad_output : (s : List ℕ) → good_of s ≡ false → output_of s ≡ refused_line BadLayout
unfolding read_of of_read
bad_output s e = rw e

pub cut_is_enough : CutIsEnough
cut_is_enough s = go (ltb 56861 (length s)) refl
  where
    go : (b : Bool) → ltb 56861 (length s) ≡ b → output_of (take 56861 s) ≡ output_of s
    go true e =
        let long = ltb-true 56861 (length s) e in
        let cut = length-take-le 56861 s (omega arith) in
        bad_output (take 56861 s) (long_bad (take 56861 s) (omega (arith, cut))) ∙ sym (bad_output s (long_bad s (omega arith)))
    go false e = ap output_of (take_all 56861 s (ltb-false 56861 (length s) e))
