-- The MMU's state as bytes: 3,416 of them, little-endian, each field at a fixed place.
--     0  u16 entries, ways, policy, hit latency, miss penalty, switches, zero
--     8  the scheme's offset, level count and four widths, the TLB's own offset, zero
--    16  u64 satp, u32 age counter, u64 count, u64 sets, u64 count of the classes
--    52  u64 hits, misses, evictions, page faults
--    84  the four classes
--    88  the 128 hands
--   216  the 128 entries, 25 bytes each
use Rattle.std.specs.Prelude.{ℕ, ◌+◌, Bool, cond, List, [], ◌∷◌, ◌++◌, leb, length}
use Rattle.std.proofs.lemmas.List.Edits.{sets}
use Rattle.plan.specs.Map.{flag}
use Rattle.scheme.specs.declared.PagingScheme.{PagingScheme}
use Rattle.entry.specs.Entry.{policy_number}
use Rattle.entry.specs.declared.TlbConfig.{TlbConfig}
use Rattle.tlb.specs.declared.Tlb.{Tlb}
use Rattle.entry_image.specs.EntryImage.{le_bytes, entries_image}
use Rattle.state.specs.declared.Mmu.{Mmu}

-- ---- what stands before the entries

-- "switches (1 enabled, 2 force, 4 TLB on)"
abbrev pub switches_of : Bool → Bool → Bool → ℕ
switches_of enabled force on = flag 0 enabled + flag 1 force + flag 2 on

-- "ways, policy .., hit latency, miss penalty, switches", and a zero
abbrev pub config_rest : TlbConfig → ℕ → List ℕ
config_rest c switches =
    c.associativity ∷ policy_number c.replacement ∷ c.hit_latency ∷ c.miss_penalty ∷ switches ∷ 0 ∷ []

-- "offset, level count, four widths", then the TLB's own offset and a zero
abbrev pub scheme_image : PagingScheme → ℕ → List ℕ
scheme_image s own = s.offset_bits ∷ s.levels ∷ (s.level_bits ++ (own ∷ 0 ∷ []))

-- eight bytes for each number
unfoldable pub words_image : List ℕ → List ℕ
words_image [] = []
words_image (w ∷ ws) = le_bytes 8 w ++ words_image ws

-- the counts of entries, sets and classes, and the tallies
abbrev pub counts_of : Tlb → List ℕ
counts_of t =
    t.count ∷ t.sets ∷ t.mask_count ∷ t.stats.hits ∷ t.stats.misses ∷ t.stats.evictions ∷ t.stats.page_faults ∷ []

-- the first 84 bytes
unfoldable pub head_image : Mmu → List ℕ
head_image m =
    le_bytes 2 m.tlb.config.entry_count
    ++ ((config_rest m.tlb.config (switches_of m.enabled m.force_translate m.tlb_enabled)
    ++ scheme_image m.scheme m.tlb.offset_bits)
    ++ (le_bytes 8 m.satp.raw ++ (le_bytes 4 m.tlb.age_counter ++ words_image (counts_of m.tlb))))

-- ---- the whole

unfoldable pub image_of : Mmu → List ℕ
image_of m =
    head_image m ++ (m.tlb.superpage_masks ++ (m.tlb.clock_hands ++ entries_image m.tlb.entries))

abbrev pub image_bytes : ℕ
image_bytes = 3416

-- whether a buffer has room for an image
abbrev pub room_in : List ℕ → Bool
room_in out = leb image_bytes (length out)

-- a buffer with the image at its start, where it has room, and else as it was
unfoldable pub put_state : Mmu → List ℕ → List ℕ
put_state m out = cond (room_in out) (sets out 0 (image_of m)) out
