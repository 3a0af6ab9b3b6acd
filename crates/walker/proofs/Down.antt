-- One level down: what the walk's definition does with the first of the widths that are left.
use Rattle.std.specs.Prelude.{Err, Result}
use Prim.Native.Nat.{ℕ, ◌+◌, ◌-◌}
use mathlib.Core.Path.{◌≡◌, refl}
use mathlib.Core.List.{List, [], ◌∷◌}
use Rattle.scheme.specs.Scheme.{total}
use Rattle.scheme.specs.declared.Format.{Format}
use Rattle.walker.specs.Descent.{entry_at, met_at, follow, seek, ended}
use Rattle.walker.specs.declared.Met.{Met}
use Rattle.walker.specs.declared.Reason.{Reason}
use Rattle.walker.specs.declared.Reason.TheVariants.{OutOfLevels}

module _ (f : Format) (ram : List ℕ) (va offset : ℕ) where
  pub seek_cons : (w : ℕ) (ws : List ℕ) (level t s a : ℕ) (m : Result Met Reason) → s ≡ offset + total ws → a ≡ entry_at f va t s w → m ≡ met_at f ram s a
      → seek f ram va offset (w ∷ ws) level t ≡ follow m s level (λ (next : ℕ). seek f ram va offset ws (level + 1) next)
  unfolding seek
  seek_cons w ws level t s a m e g h = simp (h, g, e)

  pub seek_none : (level t : ℕ) → seek f ram va offset [] level t ≡ ended (Err OutOfLevels) offset (level - 1)
  unfolding seek
  seek_none level t = refl
