-- Writes in order, and in a part of a stretch that is lent.
use Prim.Native.Nat.{ℕ, zero, suc, ◌+◌, ◌-◌, ◌/◌, ◌%◌, ◌≤◌, ◌<◌}
use native.Mathlib.Omega.{arith}
use native.Mathlib.Nat.{add_assoc}
use mathlib.Core.Path.{◌≡◌, refl, sym, ap, subst, ◌∙◌}
use mathlib.Core.List.{List, [], ◌∷◌, ◌++◌}
use lib.ListN.{length, take, drop, set, length-set, take-append-drop, length-drop}
use lib.Seq.{set-append_left, length-take-le}
use Rattle.std.proofs.lemmas.List.{set-append_right}
use Rattle.memory.specs.Word.{put_at}
use Rattle.memory.proofs.Laws.{length_put}
use Rattle.plan.specs.Writes.{Write, written}
use Rattle.plan.proofs.Rows.{In}

pub written_append : (low : ℕ) (vs ws : List Write) (xs : List ℕ) → written low (vs ++ ws) xs ≡ written low ws (written low vs xs)
unfolding written
written_append low [] ws xs = refl
written_append low (v ∷ vs) ws xs = written_append low vs ws (put_at 4 xs (v.at - low) v.word)

pub length_written : (low : ℕ) (ws : List Write) (xs : List ℕ) → length (written low ws xs) ≡ length xs
unfolding written
length_written low [] xs = refl
length_written low (w ∷ ws) xs = length_written low ws _ ∙ length_put 4 xs (w.at - low) w.word

-- ---- a stretch of which a middle part is lent

set_mid : (hs xs bs : List ℕ) (i v : ℕ) → i < length xs → set (hs ++ (xs ++ bs)) (length hs + i) v ≡ hs ++ (set xs i v ++ bs)
set_mid hs xs bs i v h =
    let here : length hs + i - length hs ≡ i = omega arith in
    rw (set-append_right hs (xs ++ bs) (length hs) (length hs + i) v refl (omega arith), here, set-append_left xs bs i v h)

put_mid : (n : ℕ) (hs xs bs : List ℕ) (i v : ℕ) → i + n ≤ length xs → put_at n (hs ++ (xs ++ bs)) (length hs + i) v ≡ hs ++ (put_at n xs i v ++ bs)
unfolding put_at
put_mid zero hs xs bs i v h = refl
put_mid (suc n) hs xs bs i v h =
    let one : i < length xs = omega arith in
    let rest : i + 1 + n ≤ length (set xs i (v % 256)) = simp length-set (omega arith) in
    rw (set_mid hs xs bs i (v % 256) one, add_assoc (length hs) i 1) (put_mid n hs (set xs i (v % 256)) bs (i + 1) (v / 256) rest)

written_mid : (low : ℕ) (hs bs : List ℕ) (ws : List Write) (xs : List ℕ) → In (low + length hs) (low + length hs + length xs) ws
    → written low ws (hs ++ (xs ++ bs)) ≡ hs ++ (written (low + length hs) ws xs ++ bs)
unfolding written In
written_mid low hs bs [] xs a = refl
written_mid low hs bs (w ∷ ws) xs a =
    let i = w.at - (low + length hs) in
    let place : w.at - low ≡ length hs + i = omega (arith, a.0) in
    let fits : i + 4 ≤ length xs = omega (arith, a.0) in
    ap (λ (k : ℕ). written low ws (put_at 4 (hs ++ (xs ++ bs)) k w.word)) place
    ∙ ap (written low ws) (put_mid 4 hs xs bs i w.word fits)
    ∙ written_mid low hs bs ws (put_at 4 xs i w.word) (subst (λ (n : ℕ). In (low + length hs) (low + length hs + n) ws) (sym (length_put 4 xs i w.word)) a.1)

written_mid_at : (low n m : ℕ) (hs bs : List ℕ) (ws : List Write) (xs : List ℕ) → length hs ≡ n → length xs ≡ m → In (low + n) (low + n + m) ws
    → hs ++ (written (low + n) ws xs ++ bs) ≡ written low ws (hs ++ (xs ++ bs))
written_mid_at low n m hs bs ws xs en em =
    subst (λ (n : ℕ). In (low + n) (low + n + m) ws → hs ++ (written (low + n) ws xs ++ bs) ≡ written low ws (hs ++ (xs ++ bs))) en
    (subst (λ (m : ℕ). In (low + length hs) (low + length hs + m) ws → hs ++ (written (low + length hs) ws xs ++ bs) ≡ written low ws (hs ++ (xs ++ bs))) em
    (λ a. sym (written_mid low hs bs ws xs a)))

-- what is written in a part that is lent is written in the whole
pub lent : (low a k : ℕ) (ws : List Write) (xs : List ℕ) → a + k ≤ length xs → In (low + a) (low + a + k) ws
    → take a xs ++ (written (low + a) ws (take k (drop a xs)) ++ drop k (drop a xs)) ≡ written low ws xs
lent low a k ws xs h within =
    let la : length (take a xs) ≡ a = length-take-le a xs (omega arith) in
    let lk : length (take k (drop a xs)) ≡ k = length-take-le k (drop a xs) (omega (arith, length-drop a xs)) in
    written_mid_at low a k (take a xs) (drop k (drop a xs)) ws (take k (drop a xs)) la lk within
    ∙ ap (written low ws) (ap (λ (l : List ℕ). take a xs ++ l) (take-append-drop k (drop a xs)) ∙ take-append-drop a xs)
