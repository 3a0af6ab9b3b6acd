-- The bytes of a number, how many they are, and that std's are the same.
use Rattle.std.proofs.Common.{◌≡◌, ◌∙◌, refl, sym, ap, ℕ, zero, suc, ◌/◌, ◌%◌, ◌^◌, List, length, arith}
use Rattle.std.proofs.Math.Nat.{div-div-eq-div-mul, div-one, pow-suc}
use Rattle.std.specs.Int.{Width, byte_at, byte_len, bytes_low_first, to_le_bytes}
use Rattle.writer.specs.Wrote.{Wrote}
use Rattle.writer.specs.declared.Out.{Out}
use Rattle.writer.proofs.Wrotes.{within, as_text}
use Rattle.entry_image.specs.EntryImage.{le_bytes}

pub length_le : (n v : ℕ) → length (le_bytes n v) ≡ n
unfolding le_bytes
length_le zero v = refl
length_le (suc n) v = ap suc (length_le n (v / 256))

byte : (i v : ℕ) → byte_at i v ≡ v / 256 ^ i % 256
byte zero v = ap (λ (x : ℕ). x % 256) (sym (div-one v))
byte (suc i) v = refl

low_first : (i n v : ℕ) → bytes_low_first i n v ≡ le_bytes n (v / 256 ^ i)
unfolding le_bytes
low_first i zero v = refl
low_first i (suc n) v =
    let rest : v / 256 ^ suc i ≡ v / 256 ^ i / 256 = ap (λ (x : ℕ). v / x) (pow-suc 256 i) ∙ sym (div-div-eq-div-mul v (256 ^ i) 256) in
    rw (byte i v, low_first (suc i) n v, rest)

std_bytes : (w : Width) (v : ℕ) → to_le_bytes w v ≡ le_bytes (byte_len w) v
std_bytes w v = low_first 0 (byte_len w) v ∙ ap (le_bytes (byte_len w)) (div-one v)

-- a number's bytes are put
pub number : (w : Width) (v : ℕ) {a b : Out} {bs : List ℕ} → bs ≡ to_le_bytes w v → Wrote (length bs) a b bs → Wrote (byte_len w) a b (le_bytes (byte_len w) v)
number w v {bs = bs} e p =
    let f : bs ≡ le_bytes (byte_len w) v = e ∙ std_bytes w v in
    let long : length bs ≡ byte_len w = ap length f ∙ length_le (byte_len w) v in
    within (omega (arith, long)) (as_text f p)
