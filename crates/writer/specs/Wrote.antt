-- What a function that writes at a cursor leaves there.
use Rattle.std.specs.Prelude.{List, ◌≡◌, ℕ, ◌+◌, ◌≤◌, length}
use Rattle.writer.specs.Put.{Put}
use Rattle.writer.specs.declared.Out.{Out}

-- `most` bytes more have room
abbrev pub HasRoom : ℕ → Out → Type 0
HasRoom most out = out.at + most ≤ length out.buf.now

-- ys is put where the cursor stood, and it stands behind ys, in the same buffer
pub record Wrote (most : ℕ) (old new : Out) (ys : List ℕ) : Type 0 where
  pub same_reference : new.buf.ghost_name ≡ old.buf.ghost_name
  pub len : length new.buf.now ≡ length old.buf.now
  pub put : Put most old.buf.now new.buf.now old.at new.at ys
