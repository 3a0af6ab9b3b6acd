-- A state is read back from its image, field by field.
use Prim.Native.Nat.{ℕ}
use native.Mathlib.Omega.{arith}
use mathlib.Core.Path.{◌≡◌, refl, sym}
use mathlib.Core.List.{List, [], ◌∷◌}
use Rattle.layout.specs.Layout.{byte_at}
use Rattle.entry.specs.Entry.{policy_number}
use Rattle.entry.specs.declared.ReplacementPolicy.{ReplacementPolicy}
use Rattle.entry.specs.declared.ReplacementPolicy.TheVariants.{Lru, Mru, Fifo, Lfu, Clock, Random}
use Rattle.state.specs.declared.Mmu.{Mmu}
use Rattle.bundle.specs.Codes.{policy_of}
use Rattle.bundle.specs.Parts.{scheme_at, config_at}
use Rattle.image.specs.Image.{image_of}
use Rattle.image.proofs.Words.{four}
use Rattle.image_read.specs.Reading.{stats_read, tlb_read, state_at}
use Rattle.images.specs.Claims.{Held}
use Rattle.images.proofs.Holds.{Holds, at}
use Rattle.images.proofs.States.{front_byte, width_byte, at_own, class_byte, hands_back, slots_back, count_back, satp_back, age_back, tally_back, switch_back}

policy_back : (p : ReplacementPolicy) → policy_of (policy_number p) ≡ p
policy_back Lru = refl
policy_back Mru = refl
policy_back Fifo = refl
policy_back Lfu = refl
policy_back Clock = refl
policy_back Random = refl

module _ {s : List ℕ} (m : Mmu) (h : Holds s 0 (image_of m)) (k : Held m) where
  config_back : config_at s 0 ≡ m.tlb.config
  config_back =
      rw (
        count_back m h k,
        front_byte m h k 0 2 refl (omega arith),
        front_byte m h k 1 3 refl (omega arith),
        front_byte m h k 2 4 refl (omega arith),
        front_byte m h k 3 5 refl (omega arith),
        policy_back m.tlb.config.replacement,
      )

  scheme_back : scheme_at s 8 ≡ m.scheme
  scheme_back =
      rw (
        front_byte m h k 6 8 refl (omega arith),
        front_byte m h k 7 9 refl (omega arith),
        width_byte m h k 0 10 refl (omega arith),
        width_byte m h k 1 11 refl (omega arith),
        width_byte m h k 2 12 refl (omega arith),
        width_byte m h k 3 13 refl (omega arith),
        ← four m.scheme.level_bits k.widths,
      )

  classes_back : byte_at s 84 ∷ byte_at s 85 ∷ byte_at s 86 ∷ byte_at s 87 ∷ [] ≡ m.tlb.superpage_masks
  classes_back =
      rw (
        class_byte m h k 0 84 refl (omega arith),
        class_byte m h k 1 85 refl (omega arith),
        class_byte m h k 2 86 refl (omega arith),
        class_byte m h k 3 87 refl (omega arith),
      )
      (sym (four m.tlb.superpage_masks k.tlb.classes))

  stats_back : stats_read s 52 ≡ m.tlb.stats
  unfolding stats_read
  stats_back =
      rw (
        tally_back m h k 3 52 (omega arith) refl k.tlb.hits,
        tally_back m h k 4 60 (omega arith) refl k.tlb.misses,
        tally_back m h k 5 68 (omega arith) refl k.tlb.evictions,
        tally_back m h k 6 76 (omega arith) refl k.tlb.faults,
      )

  own_back : byte_at s 14 ≡ m.tlb.offset_bits
  own_back = at 0 14 refl (omega arith) (at_own m h k)

  tlb_back : tlb_read s 0 ≡ m.tlb
  unfolding tlb_read
  tlb_back =
      rw (
        slots_back m h k,
        hands_back m h k,
        tally_back m h k 0 28 (omega arith) refl k.tlb.count,
        tally_back m h k 1 36 (omega arith) refl k.tlb.sets,
        age_back m h k,
        config_back,
        stats_back,
        own_back,
        classes_back,
        tally_back m h k 2 44 (omega arith) refl k.tlb.mask_count,
      )

  pub state_back : state_at s 0 ≡ m
  unfolding state_at
  state_back = rw (tlb_back, scheme_back, satp_back m h k, switch_back m h k 0, switch_back m h k 1, switch_back m h k 2)
