-- A number as bytes, and an entry of the TLB: 25 bytes, little-endian. How it is read from them.
use Rattle.std.specs.Prelude.{ℕ, zero, suc, ◌+◌, ◌/◌, ◌%◌, Bool, true, ◌&&◌, List, [], ◌∷◌, ◌++◌, leb}
use Rattle.bits.specs.Bits.{bit}
use Rattle.memory.specs.Word.{le_at}
use Rattle.pte.specs.Entry.{valid_bit, perms_of, global_bit, a_place, d_place}
use Rattle.plan.specs.Map.{flag}
use Rattle.entry.specs.declared.TlbEntry.{TlbEntry}
use Rattle.layout.specs.Layout.{byte_at}

-- the n low bytes of v, lowest first: what `le_at` reads
unfoldable pub le_bytes : ℕ → ℕ → List ℕ
le_bytes zero v = []
le_bytes (suc n) v = v % 256 ∷ le_bytes n (v / 256)

-- "V R W X U G A D", as "PTE bits 0-7"
unfoldable pub entry_flags : TlbEntry → ℕ
entry_flags e =
    flag 0 e.valid + flag 1 e.perms.r + flag 2 e.perms.w + flag 3 e.perms.x
    + flag 4 e.perms.u + flag 5 e.global + flag 6 e.accessed + flag 7 e.dirty

-- u64 VPN, u64 PPN, u32 age, u16 ASID, class, flags, reference bit
unfoldable pub entry_image : TlbEntry → List ℕ
entry_image e =
    le_bytes 8 e.vpn
    ++ (le_bytes 8 e.ppn
    ++ (le_bytes 4 e.age
    ++ (le_bytes 2 e.asid ++ (e.mask_bits ∷ entry_flags e ∷ flag 0 e.ref_bit ∷ []))))

unfoldable pub entries_image : List TlbEntry → List ℕ
entries_image [] = []
entries_image (e ∷ es) = entry_image e ++ entries_image es

-- ---- read

-- the flags are those of a page-table entry
unfoldable pub entry_read : List ℕ → ℕ → TlbEntry
entry_read s p =
    record {
      vpn = le_at 8 s p;
      ppn = le_at 8 s (p + 8);
      age = le_at 4 s (p + 16);
      asid = le_at 2 s (p + 20);
      perms = perms_of (byte_at s (p + 23));
      valid = valid_bit (byte_at s (p + 23));
      global = global_bit (byte_at s (p + 23));
      accessed = bit a_place (byte_at s (p + 23));
      dirty = bit d_place (byte_at s (p + 23));
      mask_bits = byte_at s (p + 22);
      ref_bit = bit 0 (byte_at s (p + 24));
    }

-- n of them, one after the other
unfoldable pub entries_read : List ℕ → ℕ → ℕ → List TlbEntry
entries_read s p zero = []
entries_read s p (suc n) = entry_read s p ∷ entries_read s (p + 25) n

-- a reference bit is 0 or 1, in each of n entries
unfoldable pub refs_ok : List ℕ → ℕ → ℕ → Bool
refs_ok s p zero = true
refs_ok s p (suc n) = leb (byte_at s (p + 24)) 1 && refs_ok s (p + 25) n
