-- The fields of a satp, put together by `|`, add up, in either format.
use Prim.Native.Nat.{ℕ, ◌+◌, ◌*◌, ◌/◌, ◌%◌, ◌^◌, ◌<◌}
use native.Mathlib.Nat.{mod-eq_of_lt, lt_of_lt_of_le, one-mul, add-mul}
use mathlib.Core.Path.{◌≡◌, sym, ap, ◌∙◌}
use native.Mathlib.Omega.{arith}
use mathlib.Core.Bool.{Bool, true, false, cond}
use lib.Dec.{lit<}
use Rattle.scheme.specs.Scheme.{is_sv39, sv32, sv39, format_of}
use Rattle.scheme.specs.Satp.{satp_in}
use Rattle.scheme.specs.declared.Format.{Format}
use Rattle.scheme.specs.declared.PagingScheme.{PagingScheme}
use lib.Bits.{bit_or, or_shifted}
use lib.Pow.{pow-add, pow_mono, shl_lt}

-- the highest bit, a field of up to j bits below it, and k bits below that
pack : (j k n y : ℕ) → n < 2 ^ j → y < 2 ^ k → j + k < 64
    → bit_or (bit_or (2 ^ (j + k)) (n * 2 ^ k % 2 ^ 64)) y ≡ 2 ^ (j + k) + n * 2 ^ k + y
pack j k n y h l few =
    let fits = shl_lt j k h in
    let whole : n * 2 ^ k % 2 ^ 64 ≡ n * 2 ^ k = mod-eq_of_lt (lt_of_lt_of_le fits (pow_mono {j = 64} (omega arith))) in
    let one : bit_or (2 ^ (j + k)) (n * 2 ^ k) ≡ 2 ^ (j + k) + n * 2 ^ k =
    ap (λ (x : ℕ). bit_or x (n * 2 ^ k)) (sym (one-mul (2 ^ (j + k))))
    ∙ or_shifted 1 (j + k) (n * 2 ^ k) fits
    ∙ ap (λ (x : ℕ). x + n * 2 ^ k) (one-mul (2 ^ (j + k))) in
    let field : 2 ^ (j + k) + n * 2 ^ k ≡ (2 ^ j + n) * 2 ^ k = ap (λ (x : ℕ). x + n * 2 ^ k) (pow-add 2 j k) ∙ sym (add-mul (2 ^ j) n (2 ^ k)) in
    ap (λ (x : ℕ). bit_or (bit_or (2 ^ (j + k)) x) y) whole
    ∙ ap (λ (x : ℕ). bit_or x y) (one ∙ field)
    ∙ or_shifted (2 ^ j + n) k y l
    ∙ ap (λ (x : ℕ). x + y) (sym field)

-- where the fields lie
pub placed : (s : PagingScheme) → ((format_of s).mode_at < 64) × ((format_of s).asid_at < 64)
unfolding format_of
placed s = go (is_sv39 s)
  where
    go : (b : Bool) → ((cond b sv39 sv32).mode_at < 64) × ((cond b sv39 sv32).asid_at < 64)
    go true = (lit< tt, lit< tt)
    go false = (lit< tt, lit< tt)

module _ (root asid : ℕ) (h : asid < 2 ^ 16) where
  abbrev joined : Format → ℕ
  joined f = bit_or (bit_or (f.mode * 2 ^ f.mode_at % 2 ^ 64) (asid % 2 ^ f.asid_bits * 2 ^ f.asid_at % 2 ^ 64)) (root / 2 ^ 12 % 2 ^ f.asid_at)

  pub joins : (s : PagingScheme) → joined (format_of s) ≡ satp_in (format_of s) root asid
  unfolding format_of satp_in
  joins s = go (is_sv39 s)
    where
      go : (b : Bool) → joined (cond b sv39 sv32) ≡ satp_in (cond b sv39 sv32) root asid
      go true = pack 19 44 (asid % 2 ^ 16) (root / 2 ^ 12 % 2 ^ 44) (omega arith) (omega arith) (omega arith)
      go false = pack 9 22 (asid % 2 ^ 9) (root / 2 ^ 12 % 2 ^ 22) (omega arith) (omega arith) (omega arith)
