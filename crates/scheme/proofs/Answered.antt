-- An answer that was found is what was asked for, where its test passed; where it failed, the refusal is.
use Rattle.std.specs.Prelude.{cond, ⊤, Err, Ok}
use Prim.Native.Nat.{ℕ}
use mathlib.Core.Path.{◌≡◌, refl}
use mathlib.Core.Bool.{Bool, true, false}
use Rattle.scheme.specs.declared.refusal.Refusal.TheVariants.{BadScheme}
use Rattle.scheme.specs.Refusals.{asked}

pub granted : (known : Bool) (m n : ℕ) → known ≡ true → m ≡ n → Ok m ≡ asked known n
unfolding asked
granted known m n e p = rw (e, p)

pub refused : (known : Bool) (n : ℕ) → known ≡ false → Err BadScheme ≡ asked known n
unfolding asked
refused known n e = rw e

-- a test by `?` was passed
pub passed : (known : Bool) (u : ⊤) → cond known (Ok tt) (Err BadScheme) ≡ Ok u → known ≡ true
passed true u e = refl
passed false u e = absurd cc
