-- The entries that are put, and those that are left; those that are read at their numbers.
use Rattle.std.proofs.Common.{◌≡◌, ℕ, zero, suc, ◌+◌, ◌*◌, ◌<◌, ◌≤◌, List, [], ◌++◌, length, drop, add-one, drop-cons, arith}
use Rattle.std.proofs.lemmas.List.{drop_all}
use Rattle.std.specs.Array.{IsFromFnResultFrom}
use Rattle.std.specs.Fn.{Called}
use denote.Param.Members.{Mut}
use Rattle.entry.specs.Entry.{blank}
use Rattle.entry.specs.declared.TlbEntry.{TlbEntry}
use Rattle.slots.specs.Slots.{entry_at}
use Rattle.entry_image.specs.EntryImage.{entry_image, entries_image, entry_read, entries_read}

module _ (es : List TlbEntry) (i : ℕ) where
  pub next_entry : i < length es → entries_image (drop i es) ≡ entry_image (entry_at es i) ++ entries_image (drop (i + 1) es)
  unfolding entries_image
  next_entry h = rw (add-one i, drop-cons es i blank h)

  pub no_entry : length es ≤ i → entries_image (drop i es) ≡ []
  unfolding entries_image
  no_entry h = rw (drop_all i es h)

-- ---- read

-- the calls of g each read an entry: p is the place of entry i
module _ {F : Type 0} (g : Mut F (ℕ × Unit {0}) TlbEntry) (f : F) (s : List ℕ) (at : ℕ)
    (reads : (i : ℕ) (e : TlbEntry) (q : F) → Called g f (i, tt) e q → (q ≡ f) × (e ≡ entry_read s (at + 25 * i))) where
  pub all_read : (es : List TlbEntry) (i n p : ℕ) → p ≡ at + 25 * i → i + n ≡ length es → IsFromFnResultFrom g f es i n → drop i es ≡ entries_read s p n
  unfolding entries_read
  all_read es i zero p e m made = drop_all i es (omega arith)
  all_read es i (suc n) p e m made =
      let one = reads i made.1 made.0 made.3 in
      let rest = all_read es (i + 1) n (p + 25) (omega arith) (omega arith) (rw one.0 at made.4) in
      rw (drop-cons es i blank (omega arith), ← (add-one i), rest, made.2.1 blank, one.1, e)
