-- An entry is read back from its 25 bytes, and so are entries in a row.
use Prim.Native.Nat.{ℕ, suc, ◌+◌, ◌*◌, ◌<◌}
use native.Mathlib.Omega.{arith}
use mathlib.Core.Path.{◌≡◌, refl, ◌∙◌}
use mathlib.Core.Bool.{Bool, true, false}
use mathlib.Core.List.{List, [], ◌∷◌, ◌++◌}
use lib.Dec.{leb}
use lib.ListN.{length, get_or, length-append}
use Rattle.bits.specs.Bits.{bit}
use Rattle.plan.specs.Map.{flag}
use Rattle.layout.specs.Layout.{byte_at}
use Rattle.entry.specs.declared.TlbEntry.{TlbEntry}
use Rattle.slots.specs.Slots.{entry_at}
use Rattle.entry_image.specs.EntryImage.{le_bytes, entry_flags, entry_image, entries_image, entry_read, entries_read, refs_ok}
use Rattle.entry_image.proofs.Bytes.{length_le}
use Rattle.images.specs.Claims.{EntryHeld}
use Rattle.images.proofs.Holds.{Holds, left, right, at, number}
use Rattle.images.proofs.Flags.{packed, bit_packed, flags_packed, flag_list}

-- the bytes behind the VPN, the PPN, the age and the ASID
abbrev pub last3 : TlbEntry → List ℕ
last3 e = e.mask_bits ∷ entry_flags e ∷ flag 0 e.ref_bit ∷ []

abbrev pub last5 : TlbEntry → List ℕ
last5 e = le_bytes 2 e.asid ++ last3 e

abbrev pub last9 : TlbEntry → List ℕ
last9 e = le_bytes 4 e.age ++ last5 e

abbrev pub last17 : TlbEntry → List ℕ
last17 e = le_bytes 8 e.ppn ++ last9 e

pub length_entry : (e : TlbEntry) → length (entry_image e) ≡ 25
unfolding entry_image le_bytes
length_entry e = refl

pub length_entries : (es : List TlbEntry) → length (entries_image es) ≡ 25 * length es
unfolding entries_image
length_entries [] = refl
length_entries (e ∷ es) = length-append (entry_image e) (entries_image es) ∙ rw (length_entry e, length_entries es) (omega arith)

module _ {s : List ℕ} (p : ℕ) (e : TlbEntry) (h : Holds s p (entry_image e)) where
  at_ppn : Holds s (p + 8) (last17 e)
  unfolding entry_image
  at_ppn = right (le_bytes 8 e.vpn) (last17 e) 8 (p + 8) (length_le 8 e.vpn) refl h

  at_age : Holds s (p + 16) (last9 e)
  at_age = right (le_bytes 8 e.ppn) (last9 e) 8 (p + 16) (length_le 8 e.ppn) (omega arith) at_ppn

  at_asid : Holds s (p + 20) (last5 e)
  at_asid = right (le_bytes 4 e.age) (last5 e) 4 (p + 20) (length_le 4 e.age) (omega arith) at_age

  at_last : Holds s (p + 22) (last3 e)
  at_last = right (le_bytes 2 e.asid) (last3 e) 2 (p + 22) (length_le 2 e.asid) (omega arith) at_asid

  class : byte_at s (p + 22) ≡ e.mask_bits
  class = at 0 (p + 22) (omega arith) (omega arith) at_last

  flags : byte_at s (p + 23) ≡ packed (flag_list e)
  flags = at 1 (p + 23) (omega arith) (omega arith) at_last ∙ flags_packed e

  pub ref_byte : byte_at s (p + 24) ≡ flag 0 e.ref_bit
  ref_byte = at 2 (p + 24) (omega arith) (omega arith) at_last

  flag_back : (k : ℕ) → bit k (byte_at s (p + 23)) ≡ get_or (flag_list e) k false
  flag_back k = rw flags (bit_packed (flag_list e) k)

  ref_back : bit 0 (byte_at s (p + 24)) ≡ e.ref_bit
  unfolding bit
  ref_back = rw ref_byte (go e.ref_bit)
    where
      go : (b : Bool) → bit 0 (flag 0 b) ≡ b
      go true = refl
      go false = refl

  pub entry_back : EntryHeld e → entry_read s p ≡ e
  unfolding entry_read entry_image
  entry_back k =
      rw (
        number 8 e.vpn k.vpn (left (le_bytes 8 e.vpn) (last17 e) h),
        number 8 e.ppn k.ppn (left (le_bytes 8 e.ppn) (last9 e) at_ppn),
        number 4 e.age k.age (left (le_bytes 4 e.age) (last5 e) at_age),
        number 2 e.asid k.asid (left (le_bytes 2 e.asid) (last3 e) at_asid),
        class,
        ref_back,
        flag_back 0,
        flag_back 1,
        flag_back 2,
        flag_back 3,
        flag_back 4,
        flag_back 5,
        flag_back 6,
        flag_back 7,
      )

pub entries_back : {s : List ℕ} (p : ℕ) (es : List TlbEntry) → ((i : ℕ) → i < length es → EntryHeld (entry_at es i)) → Holds s p (entries_image es)
    → entries_read s p (length es) ≡ es
unfolding entries_image entries_read
entries_back p [] k h = refl
entries_back p (e ∷ es) k h =
    rw (
      entry_back p e (left (entry_image e) (entries_image es) h) (k 0 (omega arith)),
      entries_back (p + 25) es (λ i l. k (suc i) (omega arith)) (right (entry_image e) (entries_image es) 25 (p + 25) (length_entry e) refl h),
    )

pub refs_good : {s : List ℕ} (p : ℕ) (es : List TlbEntry) → Holds s p (entries_image es) → refs_ok s p (length es) ≡ true
unfolding entries_image refs_ok
refs_good p [] h = refl
refs_good p (e ∷ es) h =
    rw (
      ref_byte p e (left (entry_image e) (entries_image es) h),
      small e.ref_bit,
      refs_good (p + 25) es (right (entry_image e) (entries_image es) 25 (p + 25) (length_entry e) refl h),
    )
  where
    small : (b : Bool) → leb (flag 0 b) 1 ≡ true
    small true = refl
    small false = refl
