-- The two rules agree where every open entry is the first of its table.
use Prim.Native.Nat.{ℕ, zero, suc, ◌+◌, ◌-◌, ◌*◌, ◌^◌, ◌≤◌, ◌<◌}
use native.Mathlib.Omega.{arith}
use native.Mathlib.Nat.{zero-mul, suc-mul, min-le_left}
use mathlib.Core.Path.{◌≡◌, refl, sym, ap, ◌∙◌}
use mathlib.Core.Bool.{Bool, true, false, true≢false, ◌&&◌, cond}
use mathlib.Core.List.{List, [], ◌∷◌, ◌++◌}
use lib.Dec.{ltb}
use lib.ListN.{length, drop, length-take}
use lib.Pow.{pow_mono}
use borrow.Author.Tests.{ltb-true}
use Rattle.scheme.specs.Scheme.{total, widths_of, shift_of}
use Rattle.scheme.specs.declared.PagingScheme.{PagingScheme}
use Rattle.plan.specs.declared.MapRule.{MapRule}
use Rattle.plan.specs.declared.MapRule.TheVariants.{Relative, Absolute}
use Rattle.plan.specs.declared.PageMapSpec.{PageMapSpec}
use Rattle.plan.specs.declared.Plan.{Plan}
use Rattle.plan.specs.declared.Window.{Window}
use Rattle.plan.specs.Map.{plan_of, shift, opens, has_level, slot_of, sum_from, entry_room, room, pointer_word}
use Rattle.plan.specs.Writes.{Write, ◌≔◌, entry_writes, row_writes, table_writes, all_writes}
use Rattle.plan.specs.Levels.{room_at}
use Rattle.installer.specs.Install.{refusal_of, install_said, install_ram}
use Rattle.maps.specs.Way.{with_rule}
use Rattle.maps.specs.Claims.{Agreeing, one_level, empty, low}

-- the plan under another rule
abbrev under : MapRule → Plan → Plan
under r p = record { scheme = p.scheme; window = p.window; delta = p.delta; flags = p.flags; rule = r }

-- at each level, of the tables whose range begins at 0, only the first entry opens
unfoldable Shallow : Plan → List ℕ → Type 0
Shallow p [] = Unit
Shallow p (w ∷ ws) = ((i : ℕ) → opens p ws (0 + i * 2 ^ shift p ws) ≡ true → i ≡ 0) × Shallow p ws

-- equal where the test holds, and alike where it does not
cond_cong {ℓ} : {A : Type ℓ} (t : Bool) (a b d : A) → (t ≡ true → a ≡ b) → cond t a d ≡ cond t b d
cond_cong true a b d e = e refl
cond_cong false a b d e = refl

base_zero : (p : Plan) (ws : List ℕ) (i : ℕ) → i ≡ 0 → 0 + i * 2 ^ shift p ws ≡ 0
base_zero p ws i e = ap (λ (k : ℕ). 0 + k * 2 ^ shift p ws) e ∙ omega (arith, zero-mul (2 ^ shift p ws))

rooms_agree : (p : Plan) (ws : List ℕ) (f g : ℕ → ℕ) → f 0 ≡ g 0 → ((i : ℕ) → opens p ws (0 + i * 2 ^ shift p ws) ≡ true → i ≡ 0)
    → (i : ℕ) → entry_room (under Absolute p) ws f 0 i ≡ entry_room (under Relative p) ws g 0 i
unfolding opens
rooms_agree p ws f g e first i =
    cond_cong _ _ _ _ (λ o. ap (λ (k : ℕ). slot_of ws + k) (ap f (base_zero p ws i (first i o)) ∙ e ∙ ap g (sym (base_zero p ws i (first i o)))))

sum_cong : (f g : ℕ → ℕ) → ((i : ℕ) → f i ≡ g i) → (n i : ℕ) → sum_from f n i ≡ sum_from g n i
unfolding sum_from
sum_cong f g e zero i = refl
sum_cong f g e (suc n) i = omega (arith, e i, sum_cong f g e n (i + 1))

room_agrees : (p : Plan) (ws : List ℕ) → Shallow p ws → room (under Absolute p) ws 0 ≡ room (under Relative p) ws 0
unfolding room Shallow
room_agrees p [] s = refl
room_agrees p (w ∷ ws) s = sum_cong _ _ (rooms_agree p ws (room (under Absolute p) ws) (room (under Relative p) ws) (room_agrees p ws s.1) s.0) (2 ^ w) 0

row_agrees : (p : Plan) (ws : List ℕ) (pa : ℕ) → Shallow p ws → ((i : ℕ) → opens p ws (0 + i * 2 ^ shift p ws) ≡ true → i ≡ 0)
    → ((c : ℕ) → table_writes (under Absolute p) ws 0 c ≡ table_writes (under Relative p) ws 0 c)
    → (n i next : ℕ)
    → row_writes (under Absolute p) ws (table_writes (under Absolute p) ws) (room (under Absolute p) ws) 0 pa n i next
    ≡ row_writes (under Relative p) ws (table_writes (under Relative p) ws) (room (under Relative p) ws) 0 pa n i next
unfolding row_writes opens
row_agrees p ws pa s first kids zero i next = refl
row_agrees p ws pa s first kids (suc n) i next =
    let one = under Absolute p in
    let two = under Relative p in
    let c = next - slot_of ws in
    let entry : entry_writes one ws (table_writes one ws) 0 pa i next ≡ entry_writes two ws (table_writes two ws) 0 pa i next =
    cond_cong _ _ _ _ (λ o. ap (λ (l : List Write). ((pa + 4 * i) ≔ pointer_word c) ∷ l)
    (ap (λ (b : ℕ). table_writes one ws b c) (base_zero p ws i (first i o)) ∙ kids c ∙ ap (λ (b : ℕ). table_writes two ws b c) (sym (base_zero p ws i (first i o))))) in
    ap (λ (l : List Write). l ++ row_writes one ws (table_writes one ws) (room one ws) 0 pa n (i + 1) (next - entry_room one ws (room one ws) 0 i)) entry
    ∙ ap (λ (l : List Write). entry_writes two ws (table_writes two ws) 0 pa i next ++ l)
    (row_agrees p ws pa s first kids n (i + 1) (next - entry_room one ws (room one ws) 0 i)
    ∙ ap (λ (r : ℕ). row_writes two ws (table_writes two ws) (room two ws) 0 pa n (i + 1) (next - r)) (rooms_agree p ws (room one ws) (room two ws) (room_agrees p ws s) first i))

-- what is written is the same under both rules
writes_agree : (p : Plan) (ws : List ℕ) (pa : ℕ) → Shallow p ws → table_writes (under Absolute p) ws 0 pa ≡ table_writes (under Relative p) ws 0 pa
unfolding table_writes Shallow
writes_agree p [] pa s = refl
writes_agree p (w ∷ ws) pa s = row_agrees p ws pa s.1 s.0 (λ c. writes_agree p ws c s.1) (2 ^ w) 0 pa

-- ---- document 01's three cases

single : (p : Plan) (w : ℕ) → Shallow p (w ∷ [])
unfolding Shallow opens
single p w = ((λ i o. absurd (true≢false (sym o))), tt)

window_of : (a b c d : Bool) → (a && (b && (c && d))) ≡ true → (b ≡ true) × (d ≡ true)
window_of true true true d e = (refl, e)
window_of true true false d e = absurd (true≢false (sym e))
window_of true false c d e = absurd (true≢false (sym e))
window_of false b c d e = absurd (true≢false (sym e))

-- an open entry begins below the end of a window that is not empty
opens_window : (p : Plan) (ws : List ℕ) (b : ℕ) → opens p ws b ≡ true → (p.window.start < p.window.end) × (b < p.window.end)
unfolding opens
opens_window p ws b o =
    let both = window_of (has_level ws) (ltb p.window.start p.window.end) (ltb p.window.start (b + 2 ^ shift p ws)) (ltb b p.window.end) o in
    (ltb-true p.window.start p.window.end both.0, ltb-true b p.window.end both.1)

no_window : (p : Plan) → p.window.end ≤ p.window.start → (ws : List ℕ) → Shallow p ws
unfolding Shallow
no_window p h [] = tt
no_window p h (w ∷ ws) = ((λ i o. absurd (omega (arith, opens_window p ws _ o))), no_window p h ws)

-- the width of the last level
unfoldable last_width : List ℕ → ℕ
last_width [] = 0
last_width (w ∷ []) = w
last_width (w ∷ v ∷ ws) = last_width (v ∷ ws)

last_total : (w : ℕ) (ws : List ℕ) → last_width (w ∷ ws) ≤ total (w ∷ ws)
unfolding last_width total
last_total w [] = omega arith
last_total w (v ∷ ws) = omega (arith, last_total v ws)

-- one entry of the last but one level spans the offset's and the last width's bits
low_window : (p : Plan) (w : ℕ) (ws : List ℕ) → p.window.end ≤ 2 ^ (p.scheme.offset_bits + last_width (w ∷ ws)) → Shallow p (w ∷ ws)
unfolding Shallow last_width
low_window p w [] h = single p w
low_window p w (v ∷ ws) h = ((λ i o. first i (opens_window p (v ∷ ws) (0 + i * 2 ^ shift p (v ∷ ws)) o).1), low_window p v ws h)
  where
    first : (i : ℕ) → 0 + i * 2 ^ shift p (v ∷ ws) < p.window.end → i ≡ 0
    first zero o = refl
    first (suc i) o =
        let small : 2 ^ (p.scheme.offset_bits + last_width (v ∷ ws)) ≤ 2 ^ shift p (v ∷ ws) = pow_mono (omega (arith, last_total v ws)) in
        absurd (omega (arith, suc-mul i (2 ^ shift p (v ∷ ws))))

last_low : (n : ℕ) (ws : List ℕ) → length ws ≤ suc n → total (drop n ws) ≤ last_width ws
unfolding total last_width
last_low zero [] h = omega arith
last_low (suc n) [] h = omega arith
last_low zero (w ∷ []) h = omega arith
last_low (suc n) (w ∷ []) h = no_more n
  where
    no_more : (n : ℕ) → total (drop n []) ≤ w
    no_more zero = omega arith
    no_more (suc n) = omega arith
last_low zero (w ∷ v ∷ ws) h = absurd (omega arith)
last_low (suc n) (w ∷ v ∷ ws) h = last_low n (v ∷ ws) (omega arith)

few : (s : PagingScheme) → length (widths_of s) ≤ s.levels
few s = rw length-take (omega (arith, min-le_left s.levels (length s.level_bits)))

one_shallow : (p : Plan) (ws : List ℕ) → length ws ≤ 1 → Shallow p ws
unfolding Shallow
one_shallow p [] h = tt
one_shallow p (w ∷ []) h = single p w
one_shallow p (w ∷ v ∷ ws) h = absurd (omega arith)

low_shallow : (p : Plan) (ws : List ℕ) → p.window.end ≤ 2 ^ (p.scheme.offset_bits + last_width ws) → Shallow p ws
unfolding Shallow
low_shallow p [] h = tt
low_shallow p (w ∷ ws) h = low_window p w ws h

shallow : (p : Plan) → Agreeing p.scheme p.window → Shallow p (widths_of p.scheme)
unfolding shift_of
shallow p (one_level e) = one_shallow p (widths_of p.scheme) (omega (arith, few p.scheme))
shallow p (empty h) = no_window p h (widths_of p.scheme)
shallow p (low h) =
    let s = p.scheme in
    let k : total (drop (suc (s.levels - 2)) (widths_of s)) ≤ last_width (widths_of s) = last_low (suc (s.levels - 2)) (widths_of s) (omega (arith, few s)) in
    let span : 2 ^ (s.offset_bits + total (drop (suc (s.levels - 2)) (widths_of s))) ≤ 2 ^ (s.offset_bits + last_width (widths_of s)) = pow_mono (omega arith) in
    low_shallow p (widths_of s) (omega arith)

-- so the installer refuses alike and writes the same under both
module _ (s : PagingScheme) (m : PageMapSpec) (win : Window) (root : ℕ) (ram : List ℕ) (agreeing : Agreeing s win) where
  rooms_same : room_at (plan_of s (with_rule Absolute m) win) 0 0 ≡ room_at (plan_of s (with_rule Relative m) win) 0 0
  unfolding room_at plan_of
  rooms_same = room_agrees (plan_of s m win) (widths_of s) (shallow (plan_of s m win) agreeing)

  writes_same : all_writes (plan_of s (with_rule Absolute m) win) root ≡ all_writes (plan_of s (with_rule Relative m) win) root
  unfolding plan_of
  writes_same = writes_agree (plan_of s m win) (widths_of s) root (shallow (plan_of s m win) agreeing)

  pub said_same : install_said s (with_rule Absolute m) win root ram ≡ install_said s (with_rule Relative m) win root ram
  unfolding refusal_of
  said_same = rw rooms_same

  pub ram_same : install_ram s (with_rule Absolute m) win root ram ≡ install_ram s (with_rule Relative m) win root ram
  unfolding install_ram
  ram_same = rw (said_same, writes_same)
