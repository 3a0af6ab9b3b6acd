-- The default configuration has room, and which modes of satp refusal 10 leaves.
use Prim.Native.Nat.{ℕ, zero, suc, ◌/◌, ◌%◌, ◌^◌, ◌<◌}
use native.Mathlib.Nat.{mod-lt}
use native.Mathlib.Omega.{arith}
use mathlib.Core.Path.{◌≡◌, refl}
use mathlib.Core.Bool.{true, false}
use mathlib.Core.Logic.{◌⊎◌, inl, inr}
use lib.Dec.{lit<}
use borrow.Author.Tests.{ne_eqb}
use Rattle.bits.specs.Bits.{field_of}
use Rattle.scheme.specs.Satp.{mode_named, mode_in}
use Rattle.scheme.specs.Scheme.{is_sv39, format_of}
use Rattle.scheme.specs.declared.PagingScheme.{PagingScheme}
use Rattle.entry.specs.Geometry.{entries_for, pow_up, default_config}
use Rattle.mmu.specs.Calls.{room_for, is_known, mode_known}

-- the default configuration is never refused
pub default_room : room_for default_config ≡ true
unfolding entries_for pow_up
default_room = refl

-- ---- 10

-- one bit of mode is Bare or on
one_bit : (n : ℕ) → n < 2 → is_known (mode_named 1 n) ≡ true
one_bit zero h = refl
one_bit (suc zero) h = refl
one_bit (suc (suc n)) h = absurd (omega arith)

module _ (s : PagingScheme) (raw : ℕ) where
  -- document 01's schemes have no mode that is neither
  pub known_01 : is_sv39 s ≡ false → mode_known s raw ≡ true
  unfolding mode_known mode_in format_of
  known_01 e = rw e (one_bit (field_of 31 1 raw) (mod-lt (raw / 2 ^ 31) (lit< tt)))

  -- and Sv39 has all but "8 for Sv39, 0 for Bare"
  pub known_39 : is_sv39 s ≡ true → (field_of 60 4 raw ≡ 0) ⊎ (field_of 60 4 raw ≡ 8) → mode_known s raw ≡ true
  unfolding mode_known mode_in format_of
  known_39 e (inl z) = rw (e, z)
  known_39 e (inr z) = rw (e, z)

  pub neither_39 : is_sv39 s ≡ true → (field_of 60 4 raw ≡ 0 → ⊥) → (field_of 60 4 raw ≡ 8 → ⊥) → mode_known s raw ≡ false
  unfolding mode_known mode_in format_of
  neither_39 e a b = rw (e, ne_eqb (raw / 2 ^ 60 % 2 ^ 4) 0 a, ne_eqb (raw / 2 ^ 60 % 2 ^ 4) 8 b)
