-- Little-endian words of n bytes in RAM, a list of bytes. The size is a parameter: 4 for document 01's schemes, 8 for Sv39.
use Rattle.std.specs.Prelude.{ℕ, zero, suc, ◌+◌, ◌*◌, ◌/◌, ◌%◌, ◌^◌, List, Bool, ◌&&◌, cond, length, get_or, set, leb, None, Option, Some}

-- "A word is readable when all four bytes lie in RAM and below 2^32": all n bytes at a lie in RAM and below 2^bits
unfoldable pub readable : ℕ → ℕ → List ℕ → ℕ → Bool
readable bits n ram a = leb (a + n) (length ram) && leb (a + n) (2 ^ bits)

-- the n bytes at a, lowest first
unfoldable pub le_at : ℕ → List ℕ → ℕ → ℕ
le_at zero ram a = 0
le_at (suc n) ram a = get_or ram a 0 + 256 * le_at n ram (a + 1)

-- RAM with the n low bytes of v at a
unfoldable pub put_at : ℕ → List ℕ → ℕ → ℕ → List ℕ
put_at zero ram a v = ram
put_at (suc n) ram a v = put_at n (set ram a (v % 256)) (a + 1) (v / 256)

-- what `load` answers
unfoldable pub word_at : ℕ → ℕ → List ℕ → ℕ → Option ℕ
word_at bits n ram a = cond (readable bits n ram a) (Some (le_at n ram a)) None

-- what `store` leaves: the word is written where it could be read, and else RAM stays
unfoldable pub store_in : ℕ → ℕ → List ℕ → ℕ → ℕ → List ℕ
store_in bits n ram a v = cond (readable bits n ram a) (put_at n ram a v) ram
