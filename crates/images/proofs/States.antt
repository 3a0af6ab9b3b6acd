-- Where each part of a state stands in its image, and what is read there.
use Prim.Native.Nat.{ℕ, zero, suc, ◌+◌, ◌*◌, ◌^◌, ◌<◌}
use native.Mathlib.Omega.{arith}
use mathlib.Core.Path.{◌≡◌, refl, ◌∙◌}
use mathlib.Core.Bool.{Bool, false}
use mathlib.Core.List.{List, [], ◌∷◌, ◌++◌}
use lib.ListN.{length, get_or, length-append}
use lib.Seq.{slice}
use Rattle.bits.specs.Bits.{bit}
use Rattle.memory.specs.Word.{le_at}
use Rattle.layout.specs.Layout.{byte_at}
use Rattle.state.specs.declared.Mmu.{Mmu}
use Rattle.entry_image.specs.EntryImage.{le_bytes, entries_image, entries_read}
use Rattle.entry_image.proofs.Bytes.{length_le}
use Rattle.image.specs.Image.{switches_of, config_rest, scheme_image, words_image, counts_of, head_image, image_of}
use Rattle.images.specs.Claims.{Held}
use Rattle.images.proofs.Holds.{Holds, left, right, at, part, number}
use Rattle.images.proofs.Flags.{bit_packed, switches_packed}
use Rattle.images.proofs.Entries.{entries_back}

-- ---- the parts of an image, each with what stands behind it

abbrev pub switch_list : Mmu → List Bool
switch_list m = m.enabled ∷ m.force_translate ∷ m.tlb_enabled ∷ []

abbrev pub front : Mmu → List ℕ
front m =
    config_rest m.tlb.config (switches_of m.enabled m.force_translate m.tlb_enabled)
    ++ scheme_image m.scheme m.tlb.offset_bits

-- what stands before the widths, and behind them
abbrev pub front8 : Mmu → List ℕ
front8 m =
    config_rest m.tlb.config (switches_of m.enabled m.force_translate m.tlb_enabled)
    ++ (m.scheme.offset_bits ∷ m.scheme.levels ∷ [])

abbrev pub own : Mmu → List ℕ
own m = m.tlb.offset_bits ∷ 0 ∷ []

abbrev pub from_age : Mmu → List ℕ
from_age m = le_bytes 4 m.tlb.age_counter ++ words_image (counts_of m.tlb)

abbrev pub from_satp : Mmu → List ℕ
from_satp m = le_bytes 8 m.satp.raw ++ from_age m

abbrev pub from_hands : Mmu → List ℕ
from_hands m = m.tlb.clock_hands ++ entries_image m.tlb.entries

abbrev pub from_classes : Mmu → List ℕ
from_classes m = m.tlb.superpage_masks ++ from_hands m

length_front : (m : Mmu) → length m.scheme.level_bits ≡ 4 → length (front m) ≡ 14
length_front m e =
    let n : length (m.scheme.level_bits ++ (m.tlb.offset_bits ∷ 0 ∷ [])) ≡ 6 =
    length-append m.scheme.level_bits (m.tlb.offset_bits ∷ 0 ∷ []) ∙ rw e in
    rw n

pub length_words : (ws : List ℕ) → length (words_image ws) ≡ 8 * length ws
unfolding words_image
length_words [] = refl
length_words (w ∷ ws) = length-append (le_bytes 8 w) (words_image ws) ∙ rw (length_le 8 w, length_words ws) (omega arith)

pub length_head : (m : Mmu) → length m.scheme.level_bits ≡ 4 → length (head_image m) ≡ 84
unfolding head_image
length_head m e =
    rw (
      length-append (le_bytes 2 m.tlb.config.entry_count) (front m ++ from_satp m),
      length-append (front m) (from_satp m),
      length-append (le_bytes 8 m.satp.raw) (from_age m),
      length-append (le_bytes 4 m.tlb.age_counter) (words_image (counts_of m.tlb)),
      length_front m e,
      length_le 2 m.tlb.config.entry_count,
      length_le 8 m.satp.raw,
      length_le 4 m.tlb.age_counter,
      length_words (counts_of m.tlb),
    )

-- the i-th of numbers in a row
word_back : {s : List ℕ} (p : ℕ) (ws : List ℕ) (i q : ℕ) → i < length ws → q ≡ p + 8 * i → get_or ws i 0 < 2 ^ 64 → Holds s p (words_image ws)
    → le_at 8 s q ≡ get_or ws i 0
unfolding words_image
word_back p [] i q l e k h = absurd (omega arith)
word_back p (w ∷ ws) zero q l e k h =
    let here : q ≡ p = omega arith in
    rw here (number 8 w k (left (le_bytes 8 w) (words_image ws) h))
word_back p (w ∷ ws) (suc i) q l e k h =
    word_back (p + 8) ws i q (omega arith) (omega arith) k (right (le_bytes 8 w) (words_image ws) 8 (p + 8) (length_le 8 w) refl h)

module _ {s : List ℕ} (m : Mmu) (h : Holds s 0 (image_of m)) (k : Held m) where
  at_head : Holds s 0 (head_image m)
  unfolding image_of
  at_head = left (head_image m) (from_classes m) h

  pub at_front : Holds s 2 (front m)
  unfolding head_image
  at_front =
      left (front m) (from_satp m)
      (right (le_bytes 2 m.tlb.config.entry_count) (front m ++ from_satp m) 2 2 (length_le 2 _) refl at_head)

  at_satp : Holds s 16 (from_satp m)
  unfolding head_image
  at_satp =
      right (front m) (from_satp m) 14 16 (length_front m k.widths) refl
      (right (le_bytes 2 m.tlb.config.entry_count) (front m ++ from_satp m) 2 2 (length_le 2 _) refl at_head)

  at_age : Holds s 24 (from_age m)
  at_age = right (le_bytes 8 m.satp.raw) (from_age m) 8 24 (length_le 8 _) refl at_satp

  at_counts : Holds s 28 (words_image (counts_of m.tlb))
  at_counts = right (le_bytes 4 m.tlb.age_counter) (words_image (counts_of m.tlb)) 4 28 (length_le 4 _) refl at_age

  at_classes : Holds s 84 (from_classes m)
  unfolding image_of
  at_classes = right (head_image m) (from_classes m) 84 84 (length_head m k.widths) refl h

  at_hands : Holds s 88 (from_hands m)
  at_hands = right m.tlb.superpage_masks (from_hands m) 4 88 k.tlb.classes refl at_classes

  pub at_entries : Holds s 216 (entries_image m.tlb.entries)
  at_entries = right m.tlb.clock_hands (entries_image m.tlb.entries) 128 216 k.tlb.hands refl at_hands

  -- a byte of the front
  pub front_byte : (i q : ℕ) → q ≡ 2 + i → i < 14 → byte_at s q ≡ get_or (front m) i 0
  front_byte i q e l = at i q e (rw (length_front m k.widths) l) at_front

  at_widths : Holds s 10 (m.scheme.level_bits ++ own m)
  at_widths = right (front8 m) (m.scheme.level_bits ++ own m) 8 10 refl refl at_front

  pub width_byte : (i q : ℕ) → q ≡ 10 + i → i < 4 → byte_at s q ≡ get_or m.scheme.level_bits i 0
  width_byte i q e l = at i q e (rw k.widths l) (left m.scheme.level_bits (own m) at_widths)

  pub at_own : Holds s 14 (own m)
  at_own = right m.scheme.level_bits (own m) 4 14 k.widths refl at_widths

  pub class_byte : (i q : ℕ) → q ≡ 84 + i → i < 4 → byte_at s q ≡ get_or m.tlb.superpage_masks i 0
  class_byte i q e l = at i q e (rw k.tlb.classes l) (left m.tlb.superpage_masks (from_hands m) at_classes)

  pub hands_back : slice 88 216 s ≡ m.tlb.clock_hands
  hands_back = part 128 216 k.tlb.hands refl (left m.tlb.clock_hands (entries_image m.tlb.entries) at_hands)

  pub slots_back : entries_read s 216 128 ≡ m.tlb.entries
  slots_back =
      rw k.tlb.slots at
      (entries_back 216 m.tlb.entries (λ i l. k.tlb.entries i (rw k.tlb.slots at l)) at_entries)

  pub count_back : le_at 2 s 0 ≡ m.tlb.config.entry_count
  unfolding head_image
  count_back =
      number 2 m.tlb.config.entry_count k.tlb.configured
      (left (le_bytes 2 m.tlb.config.entry_count) (front m ++ from_satp m) at_head)

  pub satp_back : le_at 8 s 16 ≡ m.satp.raw
  satp_back = number 8 m.satp.raw k.satp (left (le_bytes 8 m.satp.raw) (from_age m) at_satp)

  pub age_back : le_at 4 s 24 ≡ m.tlb.age_counter
  age_back =
      number 4 m.tlb.age_counter k.tlb.age
      (left (le_bytes 4 m.tlb.age_counter) (words_image (counts_of m.tlb)) at_age)

  pub tally_back : (i q : ℕ) → i < 7 → q ≡ 28 + 8 * i → get_or (counts_of m.tlb) i 0 < 2 ^ 64 → le_at 8 s q ≡ get_or (counts_of m.tlb) i 0
  tally_back i q l e below = word_back 28 (counts_of m.tlb) i q l e below at_counts

  pub switch_back : (i : ℕ) → bit i (byte_at s 6) ≡ get_or (switch_list m) i false
  switch_back i =
      rw (front_byte 4 6 refl (omega arith) ∙ switches_packed m.enabled m.force_translate m.tlb_enabled)
      (bit_packed (switch_list m) i)
