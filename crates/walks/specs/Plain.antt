-- A word, a descent and a verdict but for A and D: what is left when the two marks are looked past.
use Rattle.std.specs.Prelude.{ℕ, ◌+◌, ◌*◌, ◌/◌, ◌%◌, ◌^◌, ◌<◌, List, get_or, Err, Ok, Result}
use Rattle.walk.specs.declared.Fault.{Fault}
use Rattle.walk.specs.declared.LeafAt.{LeafAt}
use Rattle.walker.specs.declared.LeafWord.{LeafWord}
use Rattle.walker.specs.declared.Reason.{Reason}
use Rattle.std.specs.Int.{◌∣◌}
use Rattle.scheme.specs.declared.Format.{Format}
use Rattle.walker.specs.Descent.{ended}
use Rattle.walker.specs.declared.Descent.{Descent}

-- the word without bits 6 and 7
abbrev pub plain : ℕ → ℕ
plain w = w / 2 ^ 8 * 2 ^ 8 + w % 2 ^ 6

unfoldable pub plain_end : Result LeafWord Reason → Result LeafWord Reason
plain_end (Ok leaf) = Ok (record { raw = plain leaf.raw; at = leaf.at })
plain_end (Err why) = Err why

unfoldable pub plain_descent : Descent → Descent
plain_descent d = ended (plain_end d.end) d.shift d.level

unfoldable pub plain_verdict : Result LeafAt Fault → Result LeafAt Fault
plain_verdict (Ok l) = Ok (record { raw = plain l.raw; at = l.at; shift = l.shift; level = l.level })
plain_verdict (Err stop) = Err stop

-- RAM is bytes, as a lent slice is
abbrev pub Bytes : List ℕ → Type 0
Bytes ram = (k : ℕ) → get_or ram k 0 < 256

-- a format whose entries lie whole in a page and in the address space
pub record Sound (f : Format) : Type 0 where
  pub some : 0 < f.bytes
  pub in_page : f.bytes ∣ 2 ^ 12
  pub in_space : f.bytes ∣ 2 ^ f.space
