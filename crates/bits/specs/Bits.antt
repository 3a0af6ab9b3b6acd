-- Bits and fields of a word, in plain arithmetic: the one meaning of every mask and shift in the project.
use Rattle.std.specs.Prelude.{ℕ, ◌+◌, ◌*◌, ◌/◌, ◌%◌, ◌^◌, Bool, cond, eqb}

-- bit n of w
unfoldable pub bit : ℕ → ℕ → Bool
bit n w = eqb (w / 2 ^ n % 2) 1

-- w with bit n set
unfoldable pub with_bit : ℕ → ℕ → ℕ
with_bit n w = cond (bit n w) w (w + 2 ^ n)

-- the field of `width` bits of w that starts at bit `at`
abbrev pub field_of : ℕ → ℕ → ℕ → ℕ
field_of at width w = w / 2 ^ at % 2 ^ width

-- x with its k low bits taken from y
abbrev pub with_low : ℕ → ℕ → ℕ → ℕ
with_low k x y = x / 2 ^ k * 2 ^ k + y % 2 ^ k
