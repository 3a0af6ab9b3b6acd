-- Over RAM that holds a map's words the descent ends at the leaf that the map's rule gives.
use Rattle.std.specs.Prelude.{Ok}
use Prim.Native.Nat.{ℕ, zero, suc, ◌+◌, ◌-◌, ◌*◌, ◌/◌, ◌%◌, ◌^◌, ◌≤◌, ◌<◌}
use native.Mathlib.Omega.{arith}
use native.Mathlib.Nat.{mod-lt, eq-or-lt_of_le}
use mathlib.Core.Path.{◌≡◌, refl, sym, ap, subst, ◌∙◌}
use mathlib.Core.Logic.{⊎_elim}
use mathlib.Core.Bool.{Bool, true, false, cond, true≢false}
use mathlib.Core.List.{List, [], ◌∷◌, ◌++◌}
use lib.ListN.{length, drop}
use lib.Pow.{pow_pos}
use Rattle.pte.specs.declared.PtePerms.{PtePerms}
use Rattle.bits.proofs.Bools.{and_left}
use Rattle.scheme.specs.Scheme.{sv32}
use Rattle.walker.specs.Descent.{follow, seek, ended}
use Rattle.walker.specs.declared.Met.TheVariants.{Table, Leaf}
use Rattle.walker.proofs.Down.{seek_cons}
use Rattle.plan.specs.declared.MapRule.{MapRule}
use Rattle.plan.specs.declared.MapRule.TheVariants.{Relative, Absolute}
use Rattle.plan.specs.declared.Plan.{Plan}
use Rattle.plan.specs.Map.{shift, inherited, base_of, has_level, opens, slot_of, sum_from, entry_room, room, leaf_word, pointer_word, flags_of}
use Rattle.plan.specs.Writes.{Write, ◌≔◌, entry_writes, row_writes, table_writes}
use Rattle.installer.specs.Install.{barred}
use Rattle.maps.specs.Way.{part_of, sum_to, own_part, base_by, first_not}
use Rattle.maps.proofs.Fields.{number_small, number_even}
use Rattle.maps.proofs.Holds.{Holds}
use Rattle.maps.proofs.Meets.{meets_leaf, meets_table, in_space, place_is}

-- ---- the base of an entry on the way, in a table whose range begins at parent

unfoldable pub base_from : MapRule → ℕ → List ℕ → ℕ → ℕ → ℕ → ℕ
base_from r offset [] parent n va = inherited r parent
base_from r offset (w ∷ ws) parent zero va = inherited r parent + part_of offset w ws va
base_from r offset (w ∷ ws) parent (suc n) va = base_from r offset ws (inherited r parent + part_of offset w ws va) n va

pub base_by_lem : (r : MapRule) (offset : ℕ) (ws : List ℕ) (parent n va : ℕ) → base_from r offset ws parent n va ≡ inherited r parent + base_by r offset ws n va
unfolding base_from sum_to own_part
base_by_lem Relative offset [] parent n va = omega arith
base_by_lem Relative offset (w ∷ ws) parent zero va = refl
base_by_lem Relative offset (w ∷ ws) parent (suc n) va = base_by_lem Relative offset ws _ n va
base_by_lem Absolute offset [] parent n va = omega arith
base_by_lem Absolute offset (w ∷ ws) parent zero va = refl
base_by_lem Absolute offset (w ∷ ws) parent (suc n) va = omega (arith, base_by_lem Absolute offset ws (parent + part_of offset w ws va) n va)

-- the level of the leaf, counted from a table's level
abbrev opens_from : Plan → List ℕ → ℕ → ℕ → ℕ → Bool
opens_from p ws parent va l = opens p (drop (suc l) ws) (base_from p.rule p.scheme.offset_bits ws parent l va)

abbrev pub level_from : Plan → List ℕ → ℕ → ℕ → ℕ
level_from p ws parent va = first_not (λ l. opens_from p ws parent va l) (length ws)

-- every room is whole pages
slot_pages : (ws : List ℕ) → slot_of ws % 4096 ≡ 0
slot_pages [] = omega arith
slot_pages (w ∷ ws) = omega arith

cond_pages : (t : Bool) (x : ℕ) → x % 4096 ≡ 0 → cond t x 0 % 4096 ≡ 0
cond_pages true x h = h
cond_pages false x h = omega arith

sum_pages : (f : ℕ → ℕ) → ((i : ℕ) → f i % 4096 ≡ 0) → (n i : ℕ) → sum_from f n i % 4096 ≡ 0
unfolding sum_from
sum_pages f e zero i = omega arith
sum_pages f e (suc n) i = omega (arith, e i, sum_pages f e n (i + 1))

pages_of : (p : Plan) (ws : List ℕ) (f : ℕ → ℕ) (parent i : ℕ) → ((b : ℕ) → f b % 4096 ≡ 0) → entry_room p ws f parent i % 4096 ≡ 0
pages_of p ws f parent i e =
    let b = base_of p ws parent i in
    cond_pages (opens p ws b) (slot_of ws + f b) (omega (arith, slot_pages ws, e b))

room_pages : (p : Plan) (ws : List ℕ) (parent : ℕ) → room p ws parent % 4096 ≡ 0
unfolding room
room_pages p [] parent = omega arith
room_pages p (w ∷ ws) parent =
    sum_pages (entry_room p ws (λ b. room p ws b) parent) (λ i. pages_of p ws (λ b. room p ws b) parent i (λ b. room_pages p ws b)) (2 ^ w) 0

entry_pages : (p : Plan) (ws : List ℕ) (parent i : ℕ) → entry_room p ws (room p ws) parent i % 4096 ≡ 0
entry_pages p ws parent i = pages_of p ws (room p ws) parent i (room_pages p ws)

-- ---- the descent

holds_left : (ram : List ℕ) (vs ws : List Write) → Holds ram (vs ++ ws) → Holds ram vs
unfolding Holds
holds_left ram [] ws h = tt
holds_left ram (v ∷ vs) ws h = (h.0, holds_left ram vs ws h.1)

holds_right : (ram : List ℕ) (vs ws : List Write) → Holds ram (vs ++ ws) → Holds ram ws
unfolding Holds
holds_right ram [] ws h = h
holds_right ram (v ∷ vs) ws h = holds_right ram vs ws h.1

-- the writes of entry k stand among those of its row, with children taken from some whole page downward
row_entry : (p : Plan) (ws : List ℕ) (ram : List ℕ) (parent pa : ℕ) (n i next k : ℕ) → next % 4096 ≡ 0 → i ≤ k → k < i + n
    → Holds ram (row_writes p ws (table_writes p ws) (room p ws) parent pa n i next)
    → (free : ℕ) × ((free % 4096 ≡ 0) × ((free ≤ next) × Holds ram (entry_writes p ws (table_writes p ws) parent pa k free)))
unfolding row_writes
row_entry p ws ram parent pa zero i next k pages lo hi h = absurd (omega arith)
row_entry p ws ram parent pa (suc n) i next k pages lo hi h =
    let next' = next - entry_room p ws (room p ws) parent i in
    let here = entry_writes p ws (table_writes p ws) parent pa i next in
    let rest = row_writes p ws (table_writes p ws) (room p ws) parent pa n (i + 1) next' in
    let pages' : next' % 4096 ≡ 0 = omega (arith, entry_pages p ws parent i) in
    ⊎_elim
    (λ e. (next, (pages, (omega arith, subst (λ (j : ℕ). Holds ram (entry_writes p ws (table_writes p ws) parent pa j next)) e (holds_left ram here rest h)))))
    (λ lt.
    let later = row_entry p ws ram parent pa n (i + 1) next' k pages' (omega arith) (omega arith) (holds_right ram here rest h) in
    (later.0, (later.1.0, (omega (arith, later.1.1.0), later.1.1.1))))
    (eq-or-lt_of_le lo)

-- where the descent from a table ends: at the leaf of level n below it
pub record Reached (p : Plan) (ram : List ℕ) (va : ℕ) (ws : List ℕ) (parent level t n : ℕ) : Type 0 where
  pub at : ℕ
  pub ends : seek sv32 ram va p.scheme.offset_bits ws level t
      ≡ ended (Ok (record { raw = leaf_word p (drop (suc n) ws) (base_from p.rule p.scheme.offset_bits ws parent n va); at = at })) (shift p (drop (suc n) ws)) (level + n)

module _ (p : Plan) (perms : PtePerms) (g : Bool) (flags : p.flags ≡ flags_of perms g) (rights : barred perms ≡ false) (page : 12 ≤ p.scheme.offset_bits)
    (ram : List ℕ) (va : ℕ) where
  -- at an entry that opens none
  at_leaf : (w : ℕ) (ws : List ℕ) (parent pa level : ℕ) → pa % 4096 ≡ 0
      → opens p ws (base_of p ws parent (va / 2 ^ shift p ws % 2 ^ w)) ≡ false
      → Holds ram (((pa + 4 * (va / 2 ^ shift p ws % 2 ^ w)) ≔ leaf_word p ws (base_of p ws parent (va / 2 ^ shift p ws % 2 ^ w))) ∷ [])
      → Reached p ram va (w ∷ ws) parent level (pa / 4096) (level_from p (w ∷ ws) parent va)
  unfolding Holds first_not base_from follow
  at_leaf w ws parent pa level pages shut h =
      let k = va / 2 ^ shift p ws % 2 ^ w in
      let b = base_of p ws parent k in
      let x = (b + p.delta) % 2 ^ 32 in
      let small : x < 2 ^ 32 = omega arith in
      let wide : 12 ≤ shift p ws = omega arith in
      let met = meets_leaf ram (shift p ws) (pa + 4 * k) (leaf_word p ws b) _ h.0.0 h.0.1 (number_small x (shift p ws) small wide) perms g (ap (λ (n : ℕ). x / 2 ^ shift p ws * 2 ^ shift p ws / 4096 * 1024 + n) flags) rights (number_even x (shift p ws) small wide) in
      let place = place_is va pa (shift p ws) w pages (in_space ram (pa + 4 * k) h.0.0) in
      rw shut
      record {
        at = pa + 4 * k;
        ends =
            seek_cons sv32 ram va p.scheme.offset_bits w ws level (pa / 4096) (shift p ws) (pa + 4 * k) (Ok (Leaf (record { raw = leaf_word p ws b; at = pa + 4 * k }))) refl place (sym met)
            ∙ ap (ended (Ok (record { raw = leaf_word p ws b; at = pa + 4 * k })) (shift p ws)) (omega arith);
      }

  -- at an entry that opens a child table at c, to where the descent from there ends
  at_pointer : (w : ℕ) (ws : List ℕ) (parent pa c level : ℕ) (kids : List Write) → pa % 4096 ≡ 0 → c ≤ pa
      → opens p ws (base_of p ws parent (va / 2 ^ shift p ws % 2 ^ w)) ≡ true
      → Holds ram (((pa + 4 * (va / 2 ^ shift p ws % 2 ^ w)) ≔ pointer_word c) ∷ kids)
      → (Holds ram kids
      → Reached p ram va ws (base_of p ws parent (va / 2 ^ shift p ws % 2 ^ w)) (level + 1) (c / 4096) (level_from p ws (base_of p ws parent (va / 2 ^ shift p ws % 2 ^ w)) va))
      → Reached p ram va (w ∷ ws) parent level (pa / 4096) (level_from p (w ∷ ws) parent va)
  unfolding Holds first_not base_from follow
  at_pointer w ws parent pa c level kids pages low opened h deeper =
      let k = va / 2 ^ shift p ws % 2 ^ w in
      let b = base_of p ws parent k in
      let n = level_from p ws b va in
      let space = in_space ram (pa + 4 * k) h.0.0 in
      let met = meets_table ram (shift p ws) (pa + 4 * k) (pointer_word c) (c / 4096) h.0.0 h.0.1 (omega arith) refl in
      let place = place_is va pa (shift p ws) w pages space in
      let on = deeper h.1 in
      let order : level + 1 + n ≡ level + suc n = omega arith in
      rw opened
      record {
        at = on.at;
        ends =
            seek_cons sv32 ram va p.scheme.offset_bits w ws level (pa / 4096) (shift p ws) (pa + 4 * k) (Ok (Table (c / 4096))) refl place (sym met)
            ∙ on.ends
            ∙ ap (ended (Ok (record { raw = leaf_word p (drop (suc n) ws) (base_from p.rule p.scheme.offset_bits ws b n va); at = on.at })) (shift p (drop (suc n) ws))) order;
      }

  entry_walk : (t : Bool) (w : ℕ) (ws : List ℕ) (parent pa free level : ℕ) → pa % 4096 ≡ 0 → free ≤ pa
      → opens p ws (base_of p ws parent (va / 2 ^ shift p ws % 2 ^ w)) ≡ t
      → Holds ram (entry_writes p ws (table_writes p ws) parent pa (va / 2 ^ shift p ws % 2 ^ w) free)
      → (t ≡ true → Holds ram (table_writes p ws (base_of p ws parent (va / 2 ^ shift p ws % 2 ^ w)) (free - slot_of ws))
      → Reached p ram va ws (base_of p ws parent (va / 2 ^ shift p ws % 2 ^ w)) (level + 1) ((free - slot_of ws) / 4096) (level_from p ws (base_of p ws parent (va / 2 ^ shift p ws % 2 ^ w)) va))
      → Reached p ram va (w ∷ ws) parent level (pa / 4096) (level_from p (w ∷ ws) parent va)
  entry_walk true w ws parent pa free level pages low e h deeper = at_pointer w ws parent pa (free - slot_of ws) level _ pages (omega arith) e (rw e at h) (deeper refl)
  entry_walk false w ws parent pa free level pages low e h deeper = at_leaf w ws parent pa level pages e (rw e at h)

  -- an entry that opens a child is not at the last level
  goes_on : (ws : List ℕ) (b : ℕ) → opens p ws b ≡ true → has_level ws ≡ true
  unfolding opens
  goes_on ws b e = and_left _ _ e

  -- over RAM that holds the writes of the table at pa, the descent from there
  pub walk_found : (ws : List ℕ) (parent pa level : ℕ) → has_level ws ≡ true → pa % 4096 ≡ 0 → Holds ram (table_writes p ws parent pa)
      → Reached p ram va ws parent level (pa / 4096) (level_from p ws parent va)
  unfolding table_writes
  walk_found [] parent pa level some pages h = absurd (true≢false (sym some))
  walk_found (w ∷ ws) parent pa level some pages h =
      let k = va / 2 ^ shift p ws % 2 ^ w in
      let b = base_of p ws parent k in
      let below : k < 0 + 2 ^ w = omega (arith, mod-lt (va / 2 ^ shift p ws) (pow_pos w)) in
      let entry = row_entry p ws ram parent pa (2 ^ w) 0 pa k pages (omega arith) below h in
      let whole : (entry.0 - slot_of ws) % 4096 ≡ 0 = omega (arith, slot_pages ws, entry.1.0) in
      entry_walk (opens p ws b) w ws parent pa entry.0 level pages entry.1.1.0 refl entry.1.1.1
      (λ e. walk_found ws b (entry.0 - slot_of ws) (level + 1) (goes_on ws b e) whole)
