-- No word of a map is written twice, so RAM holds every one of them afterwards.
use Prim.Native.Nat.{ℕ, zero, suc, ◌+◌, ◌-◌, ◌*◌, ◌%◌, ◌^◌, ◌≤◌, ◌<◌}
use native.Mathlib.Omega.{arith}
use native.Mathlib.Nat.{sub-zero, div-mul-le_self}
use mathlib.Core.Path.{◌≡◌, refl, ap, ◌∙◌}
use mathlib.Core.Logic.{◌⊎◌, ⊎_elim}
use mathlib.Core.Bool.{Bool, true, false, cond}
use mathlib.Core.List.{List, [], ◌∷◌, ◌++◌}
use lib.ListN.{length}
use borrow.Author.Tests.{le-leb}
use Rattle.memory.specs.Word.{readable, le_at, put_at}
use Rattle.memory.proofs.Laws.{length_put, read_same, read_other, Apart, before, after}
use Rattle.plan.specs.declared.Plan.{Plan}
use Rattle.plan.specs.Map.{shift, base_of, opens, slot_of, entry_room, room, leaf_word, pointer_word}
use Rattle.plan.specs.Writes.{Write, ◌≔◌, entry_writes, row_writes, table_writes, written}
use Rattle.plan.proofs.Rows.{In}
use Rattle.plan.proofs.Lent.{length_written}
use Rattle.maps.specs.Written.{Out, Distinct}

-- RAM holds each word that is written, where a walk can read it
unfoldable pub Holds : List ℕ → List Write → Type 0
Holds ram [] = Unit
Holds ram (w ∷ ws) = ((readable 32 4 ram w.at ≡ true) × (le_at 4 ram w.at ≡ w.word)) × Holds ram ws

-- each word fits 32 bits
unfoldable pub Words : List Write → Type 0
Words [] = Unit
Words (w ∷ ws) = (w.word < 2 ^ 32) × Words ws

apart : (a b : ℕ) → (a + 4 ≤ b) ⊎ (b + 4 ≤ a) → Apart 4 a 4 b
apart a b s = ⊎_elim after before s

-- a word that later writes keep clear of stays
stays : (ws : List Write) (xs : List ℕ) (a : ℕ) → Out a (a + 4) ws → le_at 4 (written 0 ws xs) a ≡ le_at 4 xs a
unfolding Out written
stays [] xs a o = refl
stays (w ∷ ws) xs a o =
    stays ws (put_at 4 xs (w.at - 0) w.word) a o.1
    ∙ ap (λ (k : ℕ). le_at 4 (put_at 4 xs k w.word) a) (sub-zero w.at) ∙ read_other 4 xs w.at w.word 4 a (apart w.at a o.0)

can_read : (ram : List ℕ) (a hi : ℕ) → a + 4 ≤ hi → hi ≤ length ram → hi ≤ 2 ^ 32 → readable 32 4 ram a ≡ true
unfolding readable
can_read ram a hi h l t =
    let in_ram : a + 4 ≤ length ram = omega arith in
    let in_space : a + 4 ≤ 2 ^ 32 = omega arith in
    rw (le-leb _ _ in_ram, le-leb _ _ in_space)

pub survive : (hi : ℕ) (ws : List Write) (xs : List ℕ) → hi ≤ length xs → hi ≤ 2 ^ 32 → Distinct ws → Words ws → In 0 hi ws → Holds (written 0 ws xs) ws
unfolding Distinct Holds Words In written
survive hi [] xs l t d s i = tt
survive hi (w ∷ ws) xs l t d s i =
    let ys = put_at 4 xs (w.at - 0) w.word in
    let same : length ys ≡ length xs = length_put 4 xs (w.at - 0) w.word in (
      (
        can_read (written 0 ws ys) w.at hi i.0.1 (omega (arith, length_written 0 ws ys)) t,
        stays ws ys w.at d.0
            ∙ ap (λ (k : ℕ). le_at 4 (put_at 4 xs k w.word) w.at) (sub-zero w.at)
            ∙ read_same 4 xs w.at w.word (omega (arith, i.0.1)) s.0,
      ),
      survive hi ws ys (omega arith) t d.1 s.1 i.1,
    )

-- ---- every word of a map fits 32 bits

words_append : (vs ws : List Write) → Words vs → Words ws → Words (vs ++ ws)
unfolding Words
words_append [] ws a b = b
words_append (v ∷ vs) ws a b = (a.0, words_append vs ws a.1 b)

leaf_small : (p : Plan) (ws : List ℕ) (b : ℕ) → p.flags < 64 → leaf_word p ws b < 2 ^ 32
leaf_small p ws b h = omega (arith, div-mul-le_self ((b + p.delta) % 4294967296) (2 ^ shift p ws))

entry_words : (t : Bool) (a next slot v : ℕ) (kids : List Write) → next < 2 ^ 32 → v < 2 ^ 32 → Words kids → Words (cond t ((a ≔ pointer_word (next - slot)) ∷ kids) ((a ≔ v) ∷ []))
unfolding Words
entry_words true a next slot v kids h hv k = (omega arith, k)
entry_words false a next slot v kids h hv k = (hv, tt)

row_words : (p : Plan) (ws : List ℕ) (parent pa : ℕ) → p.flags < 64 → ((b c : ℕ) → c < 2 ^ 32 → Words (table_writes p ws b c))
    → (n i next : ℕ) → next < 2 ^ 32 → Words (row_writes p ws (table_writes p ws) (room p ws) parent pa n i next)
unfolding Words row_writes
row_words p ws parent pa f kids zero i next h = tt
row_words p ws parent pa f kids (suc n) i next h =
    let b = base_of p ws parent i in
    words_append (entry_writes p ws (table_writes p ws) parent pa i next)
    (row_writes p ws (table_writes p ws) (room p ws) parent pa n (i + 1) (next - entry_room p ws (room p ws) parent i))
    (entry_words (opens p ws b) (pa + 4 * i) next (slot_of ws) (leaf_word p ws b) (table_writes p ws b (next - slot_of ws)) h (leaf_small p ws b f) (kids b (next - slot_of ws) (omega arith)))
    (row_words p ws parent pa f kids n (i + 1) (next - entry_room p ws (room p ws) parent i) (omega arith))

pub tables_words : (p : Plan) (ws : List ℕ) (parent pa : ℕ) → p.flags < 64 → pa < 2 ^ 32 → Words (table_writes p ws parent pa)
unfolding Words table_writes
tables_words p [] parent pa f h = tt
tables_words p (w ∷ ws) parent pa f h = row_words p ws parent pa f (λ b c. tables_words p ws b c f) (2 ^ w) 0 pa h
