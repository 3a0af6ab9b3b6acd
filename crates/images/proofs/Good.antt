-- An image is good.
use Prim.Native.Nat.{ℕ, ◌^◌, ◌≤◌}
use native.Mathlib.Omega.{arith}
use mathlib.Core.Path.{◌≡◌, refl}
use mathlib.Core.Bool.{Bool, true, false}
use lib.Dec.{leb}
use lib.ListN.{length, length-append}
use borrow.Author.Tests.{le-leb}
use Rattle.plan.specs.Map.{flag}
use Rattle.entry.specs.Entry.{policy_number}
use Rattle.entry.specs.declared.ReplacementPolicy.{ReplacementPolicy}
use Rattle.entry.specs.declared.ReplacementPolicy.TheVariants.{Lru, Mru, Fifo, Lfu, Clock, Random}
use Rattle.state.specs.declared.Mmu.{Mmu}
use Rattle.entry_image.specs.EntryImage.{entries_image, refs_ok}
use Rattle.image.specs.Image.{switches_of, head_image, image_of}
use Rattle.image_read.specs.Reading.{good_image}
use Rattle.images.specs.Claims.{Held}
use Rattle.images.proofs.Holds.{whole, at}
use Rattle.images.proofs.Entries.{length_entries, refs_good}
use Rattle.images.proofs.States.{from_classes, from_hands, length_head, front_byte, at_own, at_entries}

policy_small : (p : ReplacementPolicy) → leb (policy_number p) 5 ≡ true
policy_small Lru = refl
policy_small Mru = refl
policy_small Fifo = refl
policy_small Lfu = refl
policy_small Clock = refl
policy_small Random = refl

flag_le : (n : ℕ) (b : Bool) → flag n b ≤ 2 ^ n
flag_le n true = omega arith
flag_le n false = omega arith

switches_small : (a b c : Bool) → leb (switches_of a b c) 7 ≡ true
switches_small a b c = le-leb (switches_of a b c) 7 (omega (arith, flag_le 0 a, flag_le 1 b, flag_le 2 c))

module _ (m : Mmu) (k : Held m) where
  pub length_image : length (image_of m) ≡ 3416
  unfolding image_of
  length_image =
      rw (
        length-append (head_image m) (from_classes m),
        length-append m.tlb.superpage_masks (from_hands m),
        length-append m.tlb.clock_hands (entries_image m.tlb.entries),
        length_head m k.widths,
        length_entries m.tlb.entries,
        k.tlb.classes,
        k.tlb.hands,
        k.tlb.slots,
      )

  refs : refs_ok (image_of m) 216 128 ≡ true
  refs = rw k.tlb.slots at (refs_good 216 m.tlb.entries (at_entries m (whole (image_of m)) k))

  pub image_good : good_image (image_of m) ≡ true
  unfolding good_image
  image_good =
      let h = whole (image_of m) in
      rw (
        length_image,
        front_byte m h k 1 3 refl (omega arith),
        policy_small m.tlb.config.replacement,
        front_byte m h k 4 6 refl (omega arith),
        switches_small m.enabled m.force_translate m.tlb_enabled,
        front_byte m h k 5 7 refl (omega arith),
        at 1 15 refl (omega arith) (at_own m h k),
        refs,
      )
