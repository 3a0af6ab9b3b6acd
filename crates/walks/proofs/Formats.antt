-- What the two formats do with PPNs and with satp.
use Prim.Native.Nat.{ℕ, ◌+◌, ◌*◌, ◌/◌, ◌%◌, ◌^◌, ◌<◌}
use native.Mathlib.Nat.{mod-lt}
use native.Mathlib.Omega.{arith}
use mathlib.Core.Path.{◌≡◌, subst⁻¹, ap, ◌∙◌}
use mathlib.Core.Bool.{Bool, true, false, cond}
use lib.Pow.{pow_pos, split}
use borrow.Author.Tests.{eq-eqb, ne_eqb}
use Rattle.pte.specs.Entry.{ppn_of}
use Rattle.scheme.specs.Satp.{mode_in, asid_in, root_in, root_of, satp_in}
use Rattle.scheme.specs.Scheme.{is_sv39, sv32, sv39}
use Rattle.scheme.specs.declared.Format.{Format}
use Rattle.scheme.specs.declared.PagingScheme.{PagingScheme}
use Rattle.walker.specs.Descent.{frame, place}
use Rattle.walk.specs.Answer.{physical_of}
use Rattle.walks.specs.Claims.{Uncut, ReadsBack}
use Rattle.walks.proofs.Tops.{is_39}

-- ---- "nothing wraps"

module _ (ppn : ℕ) (h : ppn < 2 ^ 44) where
  frame_39 : frame sv39 ppn ≡ ppn * 4096
  unfolding frame
  frame_39 = omega arith

  entry_39 : (i : ℕ) → i < 512 → place sv39 ppn i ≡ ppn * 4096 + 8 * i
  unfolding place
  entry_39 i l = rw frame_39 (omega arith)

  address_39 : (shift va : ℕ) → ppn * 4096 % 2 ^ shift ≡ 0 → physical_of sv39 ppn shift va ≡ ppn * 4096 + va % 2 ^ shift
  address_39 shift va e =
      let whole : ppn * 4096 / 2 ^ shift * 2 ^ shift ≡ ppn * 4096 = omega (arith, split (ppn * 4096) shift, e) in
      ap (λ (n : ℕ). n / 2 ^ shift * 2 ^ shift + va % 2 ^ shift) frame_39 ∙ ap (λ (n : ℕ). n + va % 2 ^ shift) whole

  pub uncut : (s : PagingScheme) → is_sv39 s ≡ true → Uncut s ppn
  uncut s e = record {
    entry = subst⁻¹ (λ (f : Format). (i : ℕ) → i < 512 → place f ppn i ≡ ppn * 4096 + 8 * i) (is_39 s e) entry_39;
    address =
        subst⁻¹ (λ (f : Format). (shift va : ℕ) → ppn * 4096 % 2 ^ shift ≡ 0 → physical_of f ppn shift va ≡ ppn * 4096 + va % 2 ^ shift) (is_39 s e)
        address_39;
  }

pub ppn_lt : (w : ℕ) → ppn_of w < 2 ^ 44
ppn_lt w = mod-lt _ (pow_pos 44)

pub root_lt : (s : PagingScheme) → is_sv39 s ≡ true → (w : ℕ) → root_of s w < 2 ^ 44
unfolding root_in
root_lt s e w = subst⁻¹ (λ (f : Format). root_in f w < 2 ^ 44) (is_39 s e) (mod-lt w (pow_pos 44))

-- ---- satp

pub reads_back : (b : Bool) (root asid : ℕ) → ReadsBack (cond b sv39 sv32) root asid
unfolding mode_in asid_in root_in satp_in
reads_back true root asid =
    let raw = satp_in sv39 root asid in
    record {
      on = rw (ne_eqb (raw / 2 ^ 60 % 2 ^ 4) 0 (λ e. omega arith), eq-eqb (raw / 2 ^ 60 % 2 ^ 4) 8 (omega arith));
      asid_is = omega arith;
      root_is = omega arith;
    }
reads_back false root asid =
    let raw = satp_in sv32 root asid in
    record {
      on = rw (ne_eqb (raw / 2 ^ 31 % 2 ^ 1) 0 (λ e. omega arith), eq-eqb (raw / 2 ^ 31 % 2 ^ 1) 1 (omega arith));
      asid_is = omega arith;
      root_is = omega arith;
    }
