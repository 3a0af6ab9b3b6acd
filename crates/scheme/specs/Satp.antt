-- The register satp. Its fields come from the scheme's format: the PPN lies lowest, above it the ASID, then the mode. Of document 01's
-- schemes what lies above bit 31 is not looked at.
use Rattle.std.specs.Prelude.{ℕ, ◌+◌, ◌*◌, ◌/◌, ◌%◌, ◌^◌, cond, eqb}
use Rattle.bits.specs.Bits.{field_of}
use Rattle.scheme.specs.Scheme.{format_of}
use Rattle.scheme.specs.declared.Format.{Format}
use Rattle.scheme.specs.declared.PagingScheme.{PagingScheme}
use Rattle.scheme.specs.declared.satp.Satp.{Satp}
use Rattle.scheme.specs.declared.satp.SatpMode.{SatpMode}
use Rattle.scheme.specs.declared.satp.SatpMode.TheVariants.{Bare, Paged, Neither}

-- the register that holds a word
abbrev pub satp_with : ℕ → Satp
satp_with raw = record { raw = raw }

-- ---- the fields, in a format

-- "0 Bare" in both; "mode 1", or "8 for Sv39", turns translation on; or it is "a satp mode that is neither"
abbrev pub mode_named : ℕ → ℕ → SatpMode
mode_named on n = cond (eqb n 0) Bare (cond (eqb n on) Paged Neither)

unfoldable pub mode_in : Format → ℕ → SatpMode
mode_in f raw = mode_named f.mode (field_of f.mode_at f.mode_bits raw)

unfoldable pub asid_in : Format → ℕ → ℕ
asid_in f raw = field_of f.asid_at f.asid_bits raw

unfoldable pub root_in : Format → ℕ → ℕ
root_in f raw = raw % 2 ^ f.asid_at

-- the satp of a root and an ASID, translation on: "mode 1, ASID mod 512, root / 4096", and of Sv39 the same with its numbers
unfoldable pub satp_in : Format → ℕ → ℕ → ℕ
satp_in f root asid = f.mode * 2 ^ f.mode_at + asid % 2 ^ f.asid_bits * 2 ^ f.asid_at + root / 4096 % 2 ^ f.asid_at

-- ---- by the scheme

abbrev pub mode_of : PagingScheme → ℕ → SatpMode
mode_of s raw = mode_in (format_of s) raw

abbrev pub asid_of : PagingScheme → ℕ → ℕ
asid_of s raw = asid_in (format_of s) raw

abbrev pub root_of : PagingScheme → ℕ → ℕ
root_of s raw = root_in (format_of s) raw
