-- The room that child tables take: its sum, entry by entry, and a bound.
use Prim.Native.Nat.{ℕ, zero, suc, ◌+◌, ◌-◌, ◌*◌, ◌^◌, ◌≤◌, ◌<◌}
use native.Mathlib.Omega.{arith}
use native.Mathlib.Nat.{suc-mul, mul-le-mul_right, sub-zero}
use mathlib.Core.Path.{◌≡◌, sym, ap, ◌∙◌}
use mathlib.Core.Bool.{Bool, true, false, cond}
use mathlib.Core.List.{List, [], ◌∷◌}
use lib.ListN.{length, length-drop}
use lib.Pow.{pow_mono}
use Rattle.scheme.specs.Scheme.{ok_widths, widths_of}
use Rattle.scheme.proofs.Widths.{ok_high, ok_rest}
use Rattle.plan.specs.declared.Plan.{Plan}
use Rattle.plan.specs.Map.{base_of, opens, slot_of, slot_bytes, sum_from, entry_room, room}
use Rattle.plan.specs.Levels.{width_at, from, entries, base_at, opens_at, room_at, entry_room_at, room_from, Fit, Entry}
use Rattle.plan.proofs.Laws.{is_valid, from_cons, used_length, ok_from, child_at}

sum_bound : (f : ℕ → ℕ) (b : ℕ) → ((i : ℕ) → f i ≤ b) → (n i : ℕ) → sum_from f n i ≤ n * b
unfolding sum_from
sum_bound f b le zero i = omega arith
sum_bound f b le (suc n) i = omega (arith, le i, sum_bound f b le n (i + 1), suc-mul n b)

-- what n levels of at most 4096 entries, each with a table of at most 16384 bytes, can take
unfoldable cap : ℕ → ℕ
cap zero = 0
cap (suc n) = 4096 * (16384 + cap n)

slot_bound : (ws : List ℕ) → ok_widths ws ≡ true → slot_of ws ≤ 16384
slot_bound [] e = omega arith
slot_bound (w ∷ ws) e = omega (arith, pow_mono {j = 12} (ok_high w ws e))

cond_bound : (b : Bool) (x m : ℕ) → x ≤ m → cond b x 0 ≤ m
cond_bound true x m h = h
cond_bound false x m h = omega arith

room_cap : (p : Plan) (ws : List ℕ) (parent : ℕ) → ok_widths ws ≡ true → room p ws parent ≤ cap (length ws)
unfolding room cap
room_cap p [] parent e = omega arith
room_cap p (w ∷ ws) parent e =
    let rest = ok_rest w ws e in
    let each : (i : ℕ) → entry_room p ws (λ b. room p ws b) parent i ≤ 16384 + cap (length ws) =
    λ i. cond_bound (opens p ws (base_of p ws parent i)) _ _ (omega (arith, slot_bound ws rest, room_cap p ws (base_of p ws parent i) rest)) in
    omega (arith, sum_bound _ _ each (2 ^ w) 0, mul-le-mul_right (16384 + cap (length ws)) (pow_mono {j = 12} (ok_high w ws e)))

cap_mono : (m n : ℕ) → m ≤ n → cap m ≤ cap n
unfolding cap
cap_mono zero n h = omega arith
cap_mono (suc m) zero h = omega arith
cap_mono (suc m) (suc n) h = omega (arith, cap_mono m n (omega arith))

-- the room below any table of a valid scheme fits 63 bits
pub room_fits : (p : Plan) (l parent : ℕ) → Fit p.scheme → room_at p l parent < 2 ^ 63
unfolding cap room_at
room_fits p l parent f =
    let s = p.scheme in
    let four : length (from s l) ≤ 4 = omega (arith, length-drop l (widths_of s), used_length s f, (is_valid s f).four) in
    omega (arith, room_cap p (from s l) parent (ok_from s f l), cap_mono (length (from s l)) 4 four)

-- a table's room: that of its entries from the first on
pub room_start : (p : Plan) (l parent : ℕ) → Fit p.scheme → l < p.scheme.levels → room_at p l parent ≡ room_from p l parent 0
unfolding room_at room_from entry_room_at room
room_start p l parent f h = ap (λ (ws : List ℕ). room p ws parent) (from_cons p.scheme f l h) ∙ ap (λ (n : ℕ). sum_from (entry_room_at p l parent) n 0) (sym (sub-zero (entries p l)))

-- one entry, and those after it
pub room_step : (p : Plan) (l parent i : ℕ) → i < entries p l → room_from p l parent i ≡ entry_room_at p l parent i + room_from p l parent (i + 1)
unfolding room_from sum_from
room_step p l parent i h =
    let one_more : entries p l - i ≡ suc (entries p l - (i + 1)) = omega arith in
    ap (λ (k : ℕ). sum_from (entry_room_at p l parent) k i) one_more

pub room_end : (p : Plan) (l parent i : ℕ) → entries p l ≤ i → room_from p l parent i ≡ 0
unfolding room_from sum_from
room_end p l parent i h =
    let none : entries p l - i ≡ 0 = omega arith in
    ap (λ (k : ℕ). sum_from (entry_room_at p l parent) k i) none

pub slot_at : (p : Plan) (l : ℕ) → Fit p.scheme → l < p.scheme.levels → slot_of (from p.scheme l) ≡ slot_bytes (width_at p.scheme l)
slot_at p l f h = ap slot_of (from_cons p.scheme f l h)

-- an open entry takes its child's room and the room below that
pub room_open : (p : Plan) (l parent i : ℕ) → Entry p l parent i → opens_at p l (base_at p l parent i) ≡ true
    → entry_room_at p l parent i ≡ slot_bytes (width_at p.scheme (l + 1)) + room_at p (l + 1) (base_at p l parent i)
unfolding entry_room_at room_at opens_at base_at
room_open p l parent i e o = rw (o, slot_at p (l + 1) e.is_at.good.fit (child_at p l parent i e o).inside)

-- any other takes none
pub room_shut : (p : Plan) (l parent i : ℕ) → opens_at p l (base_at p l parent i) ≡ false → entry_room_at p l parent i ≡ 0
unfolding entry_room_at opens_at base_at
room_shut p l parent i o = rw o
