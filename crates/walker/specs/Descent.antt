-- The descent of the privileged manual's walk ("Virtual Address Translation Process", steps numbered as there), over the format of the
-- tables and the list of index widths. It only reads, and asks nothing about who asks.
use Rattle.std.specs.Prelude.{ℕ, ◌+◌, ◌-◌, ◌*◌, ◌/◌, ◌%◌, ◌^◌, List, [], ◌∷◌, Bool, true, false, not, cond, ◌||◌, eqb, Err, Ok, Result}
use Rattle.walker.specs.declared.LeafWord.{LeafWord}
use Rattle.bits.specs.Bits.{field_of}
use Rattle.pte.specs.Entry.{valid_bit, perms_of, leaf_of, reserved, high_bits, ppn_of}
use Rattle.memory.specs.Word.{readable, le_at}
use Rattle.scheme.specs.Scheme.{total, widths_of, shift_of, format_of}
use Rattle.scheme.specs.declared.Format.{Format}
use Rattle.scheme.specs.declared.PagingScheme.{PagingScheme}
use Rattle.walker.specs.declared.Reason.{Reason}
use Rattle.walker.specs.declared.Reason.TheVariants.{Unreadable, Invalid, WriteOnly, Misaligned, OutOfLevels, WrongTop, HighBits}
use Rattle.walker.specs.declared.Met.{Met}
use Rattle.walker.specs.declared.Met.TheVariants.{Table, Leaf}
use Rattle.walker.specs.declared.Descent.{Descent}

abbrev pub ended : Result LeafWord Reason → ℕ → ℕ → Descent
ended e shift level = record { end = e; shift = shift; level = level }

-- where the descent ends, once it has met m at a level; `go` goes on from the next table's frame
unfoldable pub follow : Result Met Reason → ℕ → ℕ → (ℕ → Descent) → Descent
follow (Err why) shift level go = ended (Err why) shift level
follow (Ok (Leaf leaf)) shift level go = ended (Ok leaf) shift level
follow (Ok (Table t)) shift level go = go t

-- the stop `why` if a test says so, and else what comes next
unfoldable pub bad_if : Bool → Reason → Result Met Reason → Result Met Reason
bad_if true why next = Err why
bad_if false why next = next

-- a leaf w at `shift` that stands at a
unfoldable pub leaf_is : ℕ → ℕ → ℕ → Result Met Reason
leaf_is shift a w =
    -- step 6: "PPN bits below (shift - 12) are zero", or the superpage is misaligned
    bad_if (not (eqb (ppn_of w % 2 ^ (shift - 12)) 0)) Misaligned
    (Ok (Leaf (record { raw = w; at = a })))

-- what the entry w that stands at a is
unfoldable pub entry_is : ℕ → ℕ → ℕ → Result Met Reason
entry_is shift a w =
    -- step 3: "V clear"
    bad_if (not (valid_bit w)) Invalid
    -- step 3: "W set with R clear"
    (bad_if (reserved (perms_of w)) WriteOnly
    -- "Bits 63-54 set in an entry fault next after W without R"; "11, high bits set"
    (bad_if (high_bits w) HighBits
    -- step 4: "If R, W and X are all clear" the PPN is the next table; "Otherwise it is a leaf"
    (cond (leaf_of w) (leaf_is shift a w) (Ok (Table (ppn_of w))))))

module _ (f : Format) where
  -- a frame's address: the PPN "times 4096 and kept to 32 bits"; on Sv39 to 56, which cuts no PPN of 44: "Frames are not cut to 32 bits"
  unfoldable pub frame : ℕ → ℕ
  frame ppn = ppn * 2 ^ 12 % 2 ^ f.space

  -- where entry i of the table in the frame t stands: "table plus 4 times index, wrapping at 2^32"; on Sv39 "nothing wraps"
  unfoldable pub place : ℕ → ℕ → ℕ
  place t i = (frame t + f.bytes * i) % 2 ^ f.space

  -- where the entry for va stands in the table in the frame t, for the index of `width` bits at `shift`
  unfoldable pub entry_at : ℕ → ℕ → ℕ → ℕ → ℕ
  entry_at va t shift width = place t (field_of shift width va)

  -- what stands at a in RAM
  unfoldable pub met_at : List ℕ → ℕ → ℕ → Result Met Reason
  met_at ram shift a =
      -- step 2: the word is "not readable"
      bad_if (not (readable f.space f.bytes ram a)) Unreadable
      (entry_is shift a (le_at f.bytes ram a))

  -- down the widths that are left, from the table in the frame t at a level; step 1 is the start, at level 0 and the root's frame.
  -- Step 4: "A pointer at the last level faults", and that is at the last level and its shift, the offset
  unfoldable pub seek : List ℕ → ℕ → ℕ → List ℕ → ℕ → ℕ → Descent
  seek ram va offset [] level t = ended (Err OutOfLevels) offset (level - 1)
  seek ram va offset (w ∷ ws) level t =
      follow (met_at ram (offset + total ws) (entry_at va t (offset + total ws) w)) (offset + total ws) level
      (λ (next : ℕ). seek ram va offset ws (level + 1) next)

-- "address bits 63-39 all equal to bit 38": those from `top` on are all clear, or all set. Of 01's 32-bit addresses they are clear
unfoldable pub top_ok : Format → ℕ → Bool
top_ok f va = eqb (va / 2 ^ f.top) 0 || eqb (va / 2 ^ f.top) f.ones

-- the whole descent: the top is "tested as the walk's first step", "10, a wrong address top (level 0)"
unfoldable pub descent_in : Format → List ℕ → ℕ → ℕ → List ℕ → ℕ → Descent
descent_in f ram va offset ws root = cond (top_ok f va) (seek f ram va offset ws 0 root) (ended (Err WrongTop) (shift_of offset ws 0) 0)

-- the descent for va from the root table's frame, in the scheme's format
unfoldable pub descent_of : List ℕ → ℕ → PagingScheme → ℕ → Descent
descent_of ram root s va = descent_in (format_of s) ram va s.offset_bits (widths_of s) root
