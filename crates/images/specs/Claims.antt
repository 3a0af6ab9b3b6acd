-- What holds of images: a state is read back from its own, and a string is an image exactly where it is good. The proofs are in
-- proofs/Claims.antt.
use Rattle.std.specs.Prelude.{ℕ, ◌^◌, ◌<◌, ◌≡◌, true, List, length, get_or, Ok}
use Rattle.entry.specs.declared.TlbEntry.{TlbEntry}
use Rattle.slots.specs.Slots.{entry_at}
use Rattle.tlb.specs.declared.Tlb.{Tlb}
use Rattle.state.specs.declared.Mmu.{Mmu}
use Rattle.image.specs.Image.{image_of, room_in, put_state}
use Rattle.image_read.specs.Reading.{state_at, good_image, state_read}

-- ---- the numbers that the types hold. A byte is written as it stands, and so none of the fields of one byte needs a bound

pub record EntryHeld (e : TlbEntry) : Type 0 where
  pub vpn : e.vpn < 2 ^ 64
  pub ppn : e.ppn < 2 ^ 64
  pub age : e.age < 2 ^ 32
  pub asid : e.asid < 2 ^ 16

pub record TlbHeld (t : Tlb) : Type 0 where
  pub entries : (i : ℕ) → i < 128 → EntryHeld (entry_at t.entries i)
  pub slots : length t.entries ≡ 128
  pub hands : length t.clock_hands ≡ 128
  pub classes : length t.superpage_masks ≡ 4
  pub configured : t.config.entry_count < 2 ^ 16
  pub age : t.age_counter < 2 ^ 32
  pub count : t.count < 2 ^ 64
  pub sets : t.sets < 2 ^ 64
  pub mask_count : t.mask_count < 2 ^ 64
  pub hits : t.stats.hits < 2 ^ 64
  pub misses : t.stats.misses < 2 ^ 64
  pub evictions : t.stats.evictions < 2 ^ 64
  pub faults : t.stats.page_faults < 2 ^ 64

pub record Held (m : Mmu) : Type 0 where
  pub tlb : TlbHeld m.tlb
  pub widths : length m.scheme.level_bits ≡ 4
  pub satp : m.satp.raw < 2 ^ 64

-- ---- the claims

-- a state is read back from its image
abbrev pub ReadBack : Type 0
ReadBack = (m : Mmu) → Held m → state_at (image_of m) 0 ≡ m

-- and from a buffer that it was put into, whatever stands behind it
abbrev pub ReadFromBuffer : Type 0
ReadFromBuffer = (m : Mmu) (out : List ℕ) → Held m → room_in out ≡ true → state_at (put_state m out) 0 ≡ m

-- an image is good, and so never refused
abbrev pub ImageIsGood : Type 0
ImageIsGood = (m : Mmu) → Held m → good_image (image_of m) ≡ true

abbrev pub ImageIsRead : Type 0
ImageIsRead = (m : Mmu) → Held m → state_read (image_of m) ≡ Ok m

-- good bytes are the image of the state that is read from them
abbrev pub GoodIsImage : Type 0
GoodIsImage = (s : List ℕ) → ((k : ℕ) → get_or s k 0 < 256) → good_image s ≡ true → image_of (state_at s 0) ≡ s
