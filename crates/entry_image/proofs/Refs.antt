-- The reference bytes at their numbers, as `all` tests them: p is the place of entry k.
use Rattle.std.proofs.Common.{◌≡◌, refl, ℕ, zero, suc, ◌+◌, ◌*◌, List, leb, arith}
use Rattle.std.specs.List.{list_all, range_with_len}
use Rattle.layout.specs.Layout.{byte_at}
use Rattle.entry_image.specs.EntryImage.{refs_ok}

pub by_number : (s : List ℕ) (at k n p : ℕ) → p ≡ at + 25 * k → list_all (λ i. leb (byte_at s (at + 25 * i + 24)) 1) (range_with_len k n) ≡ refs_ok s p n
unfolding refs_ok
by_number s at k zero p e = refl
by_number s at k (suc n) p e = rw (by_number s at (k + 1) n (p + 25) (omega arith), e)
