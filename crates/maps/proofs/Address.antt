-- Under the absolute rule the sum along the path is the address, cut down to the leaf's page.
use Prim.Native.Nat.{ℕ, zero, suc, ◌+◌, ◌*◌, ◌/◌, ◌%◌, ◌^◌, ◌≤◌, ◌<◌}
use native.Mathlib.Omega.{arith}
use native.Mathlib.Nat.{div-add-mod', add-mul, mul_assoc, zero-mul, div-eq_of_lt}
use mathlib.Core.Path.{◌≡◌, refl, sym, ap, ◌∙◌}
use mathlib.Core.Bool.{Bool, true, false, cond}
use mathlib.Core.List.{List, [], ◌∷◌}
use lib.ListN.{length, drop, drop_of_length-le}
use lib.Pow.{pow-add, shr-shr}
use Rattle.scheme.specs.Scheme.{total, widths_of}
use Rattle.plan.specs.declared.Plan.{Plan}
use Rattle.plan.specs.Map.{opens}
use Rattle.maps.specs.Way.{part_of, sum_to, first_not, leaf_level, base_on}

-- an address cut down to its table's range, and its index there, make it cut down to the entry's
cut_base : (va s w : ℕ) → va / 2 ^ (w + s) * 2 ^ (w + s) + va / 2 ^ s % 2 ^ w * 2 ^ s ≡ va / 2 ^ s * 2 ^ s
cut_base va s w =
    let q = va / 2 ^ s in
    let order : w + s ≡ s + w = omega arith in
    let high : va / 2 ^ (w + s) * 2 ^ (w + s) ≡ q / 2 ^ w * 2 ^ w * 2 ^ s =
    ap (λ (n : ℕ). va / 2 ^ n * 2 ^ (w + s)) order ∙ ap (λ (n : ℕ). n * 2 ^ (w + s)) (sym (shr-shr va s w)) ∙ ap (λ (n : ℕ). q / 2 ^ w * n) (pow-add 2 w s) ∙ sym (mul_assoc (q / 2 ^ w) (2 ^ w) (2 ^ s)) in
    ap (λ (n : ℕ). n + q % 2 ^ w * 2 ^ s) high ∙ sym (add-mul (q / 2 ^ w * 2 ^ w) (q % 2 ^ w) (2 ^ s)) ∙ ap (λ (n : ℕ). n * 2 ^ s) (div-add-mod' q (2 ^ w))

step_cut : (offset w : ℕ) (ws : List ℕ) (va : ℕ)
    → va / 2 ^ (offset + (w + total ws)) * 2 ^ (offset + (w + total ws)) + part_of offset w ws va ≡ va / 2 ^ (offset + total ws) * 2 ^ (offset + total ws)
step_cut offset w ws va =
    let order : offset + (w + total ws) ≡ w + (offset + total ws) = omega arith in
    ap (λ (k : ℕ). va / 2 ^ k * 2 ^ k + part_of offset w ws va) order ∙ cut_base va (offset + total ws) w

sum_cut : (offset : ℕ) (ws : List ℕ) (n va : ℕ) → n < length ws
    → va / 2 ^ (offset + total ws) * 2 ^ (offset + total ws) + sum_to offset ws n va
    ≡ va / 2 ^ (offset + total (drop (suc n) ws)) * 2 ^ (offset + total (drop (suc n) ws))
unfolding sum_to total
sum_cut offset [] n va h = absurd (omega arith)
sum_cut offset (w ∷ ws) zero va h = step_cut offset w ws va
sum_cut offset (w ∷ ws) (suc n) va h = omega (arith, step_cut offset w ws va, sum_cut offset ws n va (omega arith))

first_below : (f : ℕ → Bool) (n : ℕ) → f n ≡ false → first_not f (suc n) ≤ n
unfolding first_not
first_below f zero e = rw e (omega arith)
first_below f (suc n) e = go (f 0) (first_below (λ l. f (suc l)) n e)
  where
    go : (b : Bool) → first_not (λ l. f (suc l)) (suc n) ≤ n → cond b (suc (first_not (λ l. f (suc l)) (suc n))) 0 ≤ suc n
    go true rest = omega arith
    go false rest = omega arith

-- the last level opens none, so the leaf's level is one of the scheme's
shut_at : (p : Plan) (ws : List ℕ) (b : ℕ) → ws ≡ [] → opens p ws b ≡ false
unfolding opens
shut_at p ws b e = rw e

first_in_lem : (p : Plan) (ws : List ℕ) (base : ℕ → ℕ) (n : ℕ) → n ≡ length ws → 0 < n → first_not (λ l. opens p (drop (suc l) ws) (base l)) n < n
first_in_lem p ws base zero e h = absurd (omega arith)
first_in_lem p ws base (suc n) e h =
    let none : drop (suc n) ws ≡ [] = drop_of_length-le ws {i = suc n} (omega arith) in
    omega (arith, first_below (λ l. opens p (drop (suc l) ws) (base l)) n (shut_at p (drop (suc n) ws) (base n) none))

pub level_in : (p : Plan) (va : ℕ) → 0 < length (widths_of p.scheme) → leaf_level p va < length (widths_of p.scheme)
unfolding leaf_level
level_in p va h = first_in_lem p (widths_of p.scheme) (λ l. base_on p l va) _ refl h

-- the sum from the top, of an address in the whole range
pub sum_whole : (offset : ℕ) (ws : List ℕ) (n va : ℕ) → n < length ws → va < 2 ^ (offset + total ws)
    → sum_to offset ws n va ≡ va / 2 ^ (offset + total (drop (suc n) ws)) * 2 ^ (offset + total (drop (suc n) ws))
sum_whole offset ws n va h small =
    let none : va / 2 ^ (offset + total ws) * 2 ^ (offset + total ws) ≡ 0 =
    ap (λ (k : ℕ). k * 2 ^ (offset + total ws)) (div-eq_of_lt small) ∙ zero-mul (2 ^ (offset + total ws)) in
    omega (arith, none, sum_cut offset ws n va h)
