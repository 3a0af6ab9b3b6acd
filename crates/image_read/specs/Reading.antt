-- The state that an image holds: each field read at its place. And which strings of bytes are images.
use Rattle.std.specs.Prelude.{ℕ, ◌+◌, Bool, cond, ◌&&◌, List, [], ◌∷◌, eqb, leb, length, Err, Ok, Result}
use Rattle.std.proofs.Math.Seq.{slice}
use Rattle.bits.specs.Bits.{bit}
use Rattle.memory.specs.Word.{le_at}
use Rattle.scheme.specs.Satp.{satp_with}
use Rattle.scheme.specs.declared.refusal.Refusal.{Refusal}
use Rattle.scheme.specs.declared.refusal.Refusal.TheVariants.{BadLayout}
use Rattle.tlb.specs.declared.TlbStats.{TlbStats}
use Rattle.tlb.specs.declared.Tlb.{Tlb}
use Rattle.state.specs.declared.Mmu.{Mmu}
use Rattle.layout.specs.Layout.{byte_at}
use Rattle.bundle.specs.Parts.{scheme_at, config_at}
use Rattle.entry_image.specs.EntryImage.{entries_read, refs_ok}
use Rattle.image.specs.Image.{image_bytes}

-- ---- the state

unfoldable pub stats_read : List ℕ → ℕ → TlbStats
stats_read s p =
    record { hits = le_at 8 s p; misses = le_at 8 s (p + 8); evictions = le_at 8 s (p + 16); page_faults = le_at 8 s (p + 24) }

unfoldable pub tlb_read : List ℕ → ℕ → Tlb
tlb_read s p =
    record {
      entries = entries_read s (p + 216) 128;
      clock_hands = slice (p + 88) (p + 216) s;
      count = le_at 8 s (p + 28);
      sets = le_at 8 s (p + 36);
      age_counter = le_at 4 s (p + 24);
      config = config_at s p;
      stats = stats_read s (p + 52);
      offset_bits = byte_at s (p + 14);
      superpage_masks = byte_at s (p + 84) ∷ byte_at s (p + 85) ∷ byte_at s (p + 86) ∷ byte_at s (p + 87) ∷ [];
      mask_count = le_at 8 s (p + 44);
    }

-- the state of the image at p
unfoldable pub state_at : List ℕ → ℕ → Mmu
state_at s p =
    record {
      tlb = tlb_read s p;
      scheme = scheme_at s (p + 8);
      satp = satp_with (le_at 8 s (p + 16));
      enabled = bit 0 (byte_at s (p + 6));
      force_translate = bit 1 (byte_at s (p + 6));
      tlb_enabled = bit 2 (byte_at s (p + 6));
    }

-- ---- which strings are images

-- the length, "policy (0 Lru, .., 5 Random)", "switches (1 enabled, 2 force, 4 TLB on; no others)", the two zeros, and the reference bits.
-- Every other byte may be any
unfoldable pub good_image : List ℕ → Bool
good_image s =
    eqb (length s) image_bytes
    && (leb (byte_at s 3) 5
    && (leb (byte_at s 6) 7 && ((eqb (byte_at s 7) 0 && eqb (byte_at s 15) 0) && refs_ok s 216 128)))

-- the state, or 8 where the bytes are no image
unfoldable pub state_read : List ℕ → Result Mmu Refusal
state_read s = cond (good_image s) (Ok (state_at s 0)) (Err BadLayout)
