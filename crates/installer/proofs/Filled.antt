-- One step of the filling: an entry's child table has its place below the table, and what a step leaves is what is to be written.
use Prim.Native.Nat.{ℕ, ◌+◌, ◌-◌, ◌*◌, ◌^◌, ◌≤◌, ◌<◌}
use native.Mathlib.Omega.{arith}
use mathlib.Core.Path.{◌≡◌, refl, sym, ap, subst, ◌∙◌}
use mathlib.Core.Bool.{true, false}
use mathlib.Core.List.{List, ◌∷◌, ◌++◌}
use lib.ListN.{length, take, drop, length-drop}
use lib.Seq.{length-take-le}
use lib.Pow.{pow_pos}
use Rattle.plan.specs.declared.Plan.{Plan}
use Rattle.plan.specs.declared.Place.{Place}
use Rattle.memory.specs.Word.{put_at}
use Rattle.memory.proofs.Laws.{length_put}
use Rattle.plan.specs.Map.{slot_bytes, table_bytes, pointer_word}
use Rattle.plan.specs.Writes.{◌≔◌, written}
use Rattle.plan.specs.Levels.{width_at, entries, base_at, opens_at, room_at, entry_room_at, room_from, leaf_at, table_at, entry_at, row_from, At, Entry, Placed}
use Rattle.plan.proofs.Laws.{child_at}
use Rattle.plan.proofs.Rooms.{room_start, room_step, room_end, room_open, room_shut}
use Rattle.plan.proofs.Rows.{row_start, row_step, row_end, entry_open, entry_shut, table_in}
use Rattle.plan.proofs.Lent.{written_append, length_written, lent}
use Rattle.installer.specs.Stretch.{table_pa, Room, Stretch}

module _ (p : Plan) (l parent i low next len : ℕ) (st : Stretch p l parent i low next len) where
  -- there is an address below the end of the 32 bits
  pub next_below : next < 2 ^ 32
  next_below = omega (arith, st.table, st.top, pow_pos (width_at p.scheme l))

  -- the table lies in the stretch
  pub table_below : table_bytes (width_at p.scheme l) ≤ len
  table_below = omega (arith, st.table, st.below_next)

  -- the entries after this one
  next_stretch : i < entries p l → Stretch p l parent (i + 1) low (next - entry_room_at p l parent i) len
  next_stretch h = record {
    is_at = st.is_at;
    part = omega arith;
    below_next = omega (arith, st.below_next, room_step p l parent i h);
    table = omega (arith, st.table);
    top = st.top;
  }

-- a child table, whose range begins at b, in its own part of a stretch
pub record Child (p : Plan) (l b low next len : ℕ) (c : Place) : Type 0 where
  pub ends : c.stop ≤ len
  pub starts : c.start ≤ c.stop
  pub pa_below : c.pa < 2 ^ 32
  pub space : Room p (l + 1) b (low + c.start) (c.stop - c.start)
  pub pa_is : table_pa p (l + 1) (low + c.start) (c.stop - c.start) ≡ c.pa

-- an entry that opens a child table
module _ (p : Plan) (l parent i low next len : ℕ) (st : Stretch p l parent i low next len) (h : i < entries p l)
    (b : ℕ) (is_base : b ≡ base_at p l parent i) (opened : opens_at p l b ≡ true) where
  entry : Entry p l parent i
  entry = record { is_at = st.is_at; listed = h }

  is_open : opens_at p l (base_at p l parent i) ≡ true
  is_open = ap (opens_at p l) (sym is_base) ∙ opened

  pub is_child : At p (l + 1) b
  is_child = subst (At p (l + 1)) (sym is_base) (child_at p l parent i entry is_open)

  entry_room_lem : entry_room_at p l parent i ≡ slot_bytes (width_at p.scheme (l + 1)) + room_at p (l + 1) b
  entry_room_lem = room_open p l parent i entry is_open ∙ ap (λ (x : ℕ). slot_bytes (width_at p.scheme (l + 1)) + room_at p (l + 1) x) (sym is_base)

  -- there is room for the child table and for all below it
  pub child_room : low + (slot_bytes (width_at p.scheme (l + 1)) + room_at p (l + 1) b) ≤ next
  child_room = omega (arith, st.below_next, room_step p l parent i h, entry_room_lem)

  pub child_falls : 2 * (p.scheme.levels - (l + 1)) + 1 < 2 * (p.scheme.levels - l)
  child_falls = omega (arith, is_child.inside)

  module _ (c : Place) (placed : Placed p (l + 1) b low next c) where
    pub child : Child p l b low next len c
    child =
        let ends : c.stop ≤ len = omega (arith, placed.pa_is, placed.stop_is, st.table) in
        let starts : c.start ≤ c.stop = omega (arith, placed.start_is, placed.stop_is) in
        record {
          ends = ends;
          starts = starts;
          pa_below = omega (arith, placed.pa_is, next_below p l parent i low next len st);
          space = record { is_at = is_child; space = omega (arith, placed.start_is, placed.stop_is); top = omega (arith, st.top) };
          pa_is = omega (arith, placed.stop_is);
        }

    -- what is left free
    child_free : c.pa - room_at p (l + 1) b ≡ next - entry_room_at p l parent i
    child_free = omega (arith, placed.pa_is, entry_room_lem)

    -- what the entry's writes are
    entry_is_lem : (pa : ℕ) → ((pa + 4 * i) ≔ pointer_word c.pa) ∷ table_at p (l + 1) b c.pa ≡ entry_at p l parent pa i next
    entry_is_lem pa =
        let free : c.pa ≡ next - slot_bytes (width_at p.scheme (l + 1)) = omega (arith, placed.pa_is) in
        ap (λ (n : ℕ). ((pa + 4 * i) ≔ pointer_word n) ∷ table_at p (l + 1) b n) free
        ∙ ap (λ (x : ℕ). ((pa + 4 * i) ≔ pointer_word (next - slot_bytes (width_at p.scheme (l + 1)))) ∷ table_at p (l + 1) x (next - slot_bytes (width_at p.scheme (l + 1)))) is_base
        ∙ sym (entry_open p l parent pa i next entry is_open)

-- the place of entry i's word in a stretch
word_place : (p : Plan) (l i low len at : ℕ) → at + table_bytes (width_at p.scheme l) ≡ len + 4 * i → table_bytes (width_at p.scheme l) ≤ len → table_pa p l low len + 4 * i - low ≡ at
word_place p l i low len at e h = omega arith

module _ (p : Plan) (l parent i low next : ℕ) (xs : List ℕ) (st : Stretch p l parent i low next (length xs)) (h : i < entries p l)
    (b : ℕ) (is_base : b ≡ base_at p l parent i) (at : ℕ) (is_at : at + table_bytes (width_at p.scheme l) ≡ length xs + 4 * i) where
  place_is : at ≡ table_pa p l low (length xs) + 4 * i - low
  place_is = sym (word_place p l i low (length xs) at is_at (table_below p l parent i low next (length xs) st))

  -- after a leaf's word
  pub leaf_filled : opens_at p l b ≡ false → (zs : List ℕ) (word : ℕ) → zs ≡ put_at 4 xs at word → word ≡ leaf_at p l b
      → (zs ≡ written low (entry_at p l parent (table_pa p l low (length xs)) i next) xs) × (next ≡ next - entry_room_at p l parent i)
  unfolding written
  leaf_filled shut zs word ez ew =
      let closed : opens_at p l (base_at p l parent i) ≡ false = ap (opens_at p l) (sym is_base) ∙ shut in (
        ez
            ∙ ap (put_at 4 xs at) (ew ∙ ap (leaf_at p l) is_base)
            ∙ ap (λ (k : ℕ). put_at 4 xs k (leaf_at p l (base_at p l parent i))) place_is
            ∙ sym (ap (λ ws. written low ws xs) (entry_shut p l parent (table_pa p l low (length xs)) i next closed)),
        omega (arith, room_shut p l parent i closed),
      )

  -- after a pointer's word and the child table in its own part, of k bytes
  module _ (opened : opens_at p l b ≡ true) (c : Place) (placed : Placed p (l + 1) b low next c)
      (zs : List ℕ) (word : ℕ) (ez : zs ≡ put_at 4 xs at word) (ew : word ≡ pointer_word c.pa) where
    kid : Child p l b low next (length xs) c
    kid = child p l parent i low next (length xs) st h b is_base opened c placed

    same : length zs ≡ length xs
    same = ap length ez ∙ length_put 4 xs at word

    pub part_long : length (take (c.stop - c.start) (drop c.start zs)) ≡ c.stop - c.start
    part_long = length-take-le _ _ (omega (arith, length-drop c.start zs, same, kid.ends, kid.starts))

    pub part_room : Room p (l + 1) b (low + c.start) (length (take (c.stop - c.start) (drop c.start zs)))
    part_room = subst (Room p (l + 1) b (low + c.start)) (sym part_long) kid.space

    pa_is : table_pa p (l + 1) (low + c.start) (length (take (c.stop - c.start) (drop c.start zs))) ≡ c.pa
    pa_is = ap (table_pa p (l + 1) (low + c.start)) part_long ∙ kid.pa_is

    pub child_filled : (ys : List ℕ) (r : ℕ)
        → ys ≡ written (low + c.start) (table_at p (l + 1) b (table_pa p (l + 1) (low + c.start) (length (take (c.stop - c.start) (drop c.start zs))))) (take (c.stop - c.start) (drop c.start zs))
        → r ≡ table_pa p (l + 1) (low + c.start) (length (take (c.stop - c.start) (drop c.start zs))) - room_at p (l + 1) b
        → (take c.start zs ++ (ys ++ drop (c.stop - c.start) (drop c.start zs)) ≡ written low (entry_at p l parent (table_pa p l low (length xs)) i next) xs)
        × (r ≡ next - entry_room_at p l parent i)
    unfolding written
    child_filled ys r ey er =
        let k = c.stop - c.start in
        let a = kid.space.is_at in
        let within = table_in p (l + 1) b c.pa (low + c.start) a.good.fit a.inside (omega (arith, placed.start_is)) in
        let top : c.pa + table_bytes (width_at p.scheme (l + 1)) ≡ low + c.start + k = omega (arith, placed.stop_is, kid.starts) in (
          ap (λ (l : List ℕ). take c.start zs ++ (l ++ drop k (drop c.start zs)))
              (ey ∙ ap (λ (x : ℕ). written (low + c.start) (table_at p (l + 1) b x) (take k (drop c.start zs))) pa_is)
              ∙ lent low c.start k (table_at p (l + 1) b c.pa) zs (omega (arith, same, kid.ends, kid.starts)) (rw top at within)
              ∙ ap (written low (table_at p (l + 1) b c.pa)) (ez ∙ ap (put_at 4 xs at) ew ∙ ap (λ (k : ℕ). put_at 4 xs k (pointer_word c.pa)) place_is)
              ∙ ap (λ ws. written low ws xs) (entry_is_lem p l parent i low next (length xs) st h b is_base opened c placed (table_pa p l low (length xs))),
          er ∙ ap (λ (x : ℕ). x - room_at p (l + 1) b) pa_is ∙ child_free p l parent i low next (length xs) st h b is_base opened c placed,
        )

-- A turn of the loop over a table's entries: to write those from i on is to write the whole table.
pub record Turn (p : Plan) (l parent low : ℕ) (xs₀ xs : List ℕ) (next i : ℕ) : Type 0 where
  pub same : length xs ≡ length xs₀
  pub stretch : Stretch p l parent i low next (length xs)
  pub rest : written low (row_from p l parent (table_pa p l low (length xs₀)) i next) xs ≡ written low (table_at p l parent (table_pa p l low (length xs₀))) xs₀
  pub free : next - room_from p l parent i ≡ table_pa p l low (length xs₀) - room_at p l parent

pub turn_start : (p : Plan) (l parent low : ℕ) (xs : List ℕ) → Room p l parent low (length xs) → Turn p l parent low xs xs (table_pa p l low (length xs)) 0
turn_start p l parent low xs r =
    let v = r.is_at.good.fit in
    let start = room_start p l parent v r.is_at.inside in
    record {
      same = refl;
      stretch = record { is_at = r.is_at; part = omega arith; below_next = omega (arith, r.space, start); table = omega (arith, r.space); top = r.top };
      rest = ap (λ ws. written low ws xs) (sym (row_start p l parent (table_pa p l low (length xs)) v r.is_at.inside));
      free = ap (λ (n : ℕ). table_pa p l low (length xs) - n) (sym start);
    }

module _ (p : Plan) (l parent low : ℕ) (xs₀ xs : List ℕ) (next i : ℕ) (turn : Turn p l parent low xs₀ xs next i) where
  pub turn_next : i < entries p l → (zs : List ℕ) (r : ℕ) → zs ≡ written low (entry_at p l parent (table_pa p l low (length xs)) i next) xs
      → r ≡ next - entry_room_at p l parent i → Turn p l parent low xs₀ zs r (i + 1)
  turn_next h zs r ez er =
      let pa = table_pa p l low (length xs₀) in
      let lz : length zs ≡ length xs = ap length ez ∙ length_written low (entry_at p l parent (table_pa p l low (length xs)) i next) xs in
      let ez' : zs ≡ written low (entry_at p l parent pa i next) xs = ez ∙ ap (λ (n : ℕ). written low (entry_at p l parent (table_pa p l low n) i next) xs) turn.same in
      record {
        same = lz ∙ turn.same;
        stretch = subst (λ (n : ℕ). Stretch p l parent (i + 1) low r n) (sym lz) (subst (λ (n : ℕ). Stretch p l parent (i + 1) low n (length xs)) (sym er) (next_stretch p l parent i low next (length xs) turn.stretch h));
        rest =
            ap (λ (n : ℕ). written low (row_from p l parent pa (i + 1) n) zs) er
            ∙ ap (written low (row_from p l parent pa (i + 1) (next - entry_room_at p l parent i))) ez'
            ∙ sym (written_append low (entry_at p l parent pa i next) (row_from p l parent pa (i + 1) (next - entry_room_at p l parent i)) xs)
            ∙ ap (λ ws. written low ws xs) (sym (row_step p l parent pa i next h)) ∙ turn.rest;
        free = omega (arith, turn.free, room_step p l parent i h);
      }

  pub turn_end : entries p l ≤ i → (xs ≡ written low (table_at p l parent (table_pa p l low (length xs₀))) xs₀) × (next ≡ table_pa p l low (length xs₀) - room_at p l parent)
  unfolding written
  turn_end h =
      (sym (ap (λ ws. written low ws xs) (row_end p l parent (table_pa p l low (length xs₀)) i next h)) ∙ turn.rest, omega (arith, turn.free, room_end p l parent i h))
