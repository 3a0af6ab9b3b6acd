-- A loop that puts line after line: the lines so far are put, and with the rest they are the whole. A caller's invariant is `Going`,
-- with `rest` by its own definition of the lines that are left, and `most` by the turns made.
use mathlib.Core.Path.{◌≡◌, refl, sym, ◌∙◌}
use mathlib.Core.List.{List, [], ◌++◌, append_assoc, append-nil}
use Prim.Native.Nat.{ℕ, ◌+◌, ◌≤◌}
use Rattle.writer.specs.Wrote.{Wrote}
use Rattle.writer.specs.declared.Out.{Out}
use Rattle.writer.proofs.Wrotes as Wrotes

pub record Going (most : ℕ) (old new : Out) (rest whole : List ℕ) : Type 0 where
  pub ys : List ℕ
  pub wrote : Wrote most old new ys
  pub all : ys ++ rest ≡ whole

pub start : (o : Out) (whole : List ℕ) → Going 0 o o whole whole
start o whole = record { ys = []; wrote = Wrotes.start o; all = refl }

-- one line more
pub then : {m k : ℕ} {a b c : Out} {zs rest whole : List ℕ} → Going m a b (zs ++ rest) whole → Wrote k b c zs → Going (m + k) a c rest whole
then {zs = zs} {rest = rest} g p = record { ys = g.ys ++ zs; wrote = Wrotes.then g.wrote p; all = append_assoc g.ys zs rest ∙ g.all }

pub within : {m k : ℕ} {a b : Out} {rest whole : List ℕ} → m ≤ k → Going m a b rest whole → Going k a b rest whole
within h g = record { ys = g.ys; wrote = Wrotes.within h g.wrote; all = g.all }

-- the rest by another name, as a definition's next step gives it
pub as_rest : {m : ℕ} {a b : Out} {rest rest' whole : List ℕ} → rest ≡ rest' → Going m a b rest whole → Going m a b rest' whole
as_rest e g = rw e at g

pub ended : {m : ℕ} {a b : Out} {whole : List ℕ} → Going m a b [] whole → Wrote m a b whole
ended g = Wrotes.as_text (sym (append-nil g.ys) ∙ g.all) g.wrote
