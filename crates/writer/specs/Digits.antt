-- Numbers as text, a byte by its ASCII code: "addresses are 8 lower-case hex digits, the rest decimal" (document 01, "The trace bundle").
use Rattle.std.specs.Prelude.{Bool, true, false, cond, List, [], ◌∷◌, ◌++◌, ◌≡◌, refl, ℕ, zero, suc, ◌+◌, ◌/◌, ◌%◌, ◌^◌, ◌-◌, length, ltb}

-- the digit of a number below 16: `0` to `9`, then `a` to `f`
abbrev pub glyph : ℕ → ℕ
glyph d = cond (ltb d 10) (48 + d) (87 + d)

-- the last k hex digits of n
unfoldable pub hex_digits : ℕ → ℕ → List ℕ
hex_digits zero n = []
hex_digits (suc k) n = hex_digits k (n / 16) ++ (glyph (n % 16) ∷ [])

-- "8 lower-case hex digits"
abbrev pub hex_of : ℕ → List ℕ
hex_of n = hex_digits 8 n

-- the decimal digits of n: those of n / 10, where n is not below 10, then the last. Each takes one turn, and the test is handed in so
-- that numbers compute
unfoldable pub decimal_in : ℕ → Bool → ℕ → List ℕ
decimal_in zero small n = glyph n ∷ []
decimal_in (suc turns) true n = glyph n ∷ []
decimal_in (suc turns) false n = decimal_in turns (ltb (n / 10) 10) (n / 10) ++ (glyph (n % 10) ∷ [])

-- "the rest decimal": n turns are enough for n
abbrev pub decimal_of : ℕ → List ℕ
decimal_of n = decimal_in n (ltb n 10) n

-- a word and the number that it tells
abbrev pub told : List ℕ → ℕ → List ℕ
told word n = word ++ decimal_of n

-- the greatest u64 has 20 digits
greatest : length (decimal_of (2 ^ 64 - 1)) ≡ 20
unfolding decimal_in
greatest = refl
