-- What is put at a cursor: nothing, one text after another, within a wider bound, and by another name.
use Rattle.std.proofs.Common.{◌≡◌, refl, ◌∙◌, ℕ, ◌+◌, ◌≤◌, List, [], ◌++◌}
use Rattle.writer.specs.Put.{Put}
use Rattle.writer.specs.Wrote.{Wrote}
use Rattle.writer.specs.declared.Out.{Out}
use Rattle.writer.proofs.Puts as Puts

-- a text that is stored in the buffer
pub wrote : {m : ℕ} {a b : Out} {ys : List ℕ} → b.buf.ghost_name ≡ a.buf.ghost_name → Put m a.buf.now b.buf.now a.at b.at ys → Wrote m a b ys
wrote e p = record { same_reference = e; len = Puts.kept p; put = p }

pub start : (o : Out) → Wrote 0 o o []
start o = wrote refl (Puts.start o.buf.now o.at)

pub then : {m k : ℕ} {a b c : Out} {ys zs : List ℕ} → Wrote m a b ys → Wrote k b c zs → Wrote (m + k) a c (ys ++ zs)
then p q = record { same_reference = q.same_reference ∙ p.same_reference; len = q.len ∙ p.len; put = Puts.then p.put q.put }

pub within : {m k : ℕ} {a b : Out} {ys : List ℕ} → m ≤ k → Wrote m a b ys → Wrote k a b ys
within h p = record { same_reference = p.same_reference; len = p.len; put = Puts.within h p.put }

-- the text by another name
pub as_text : {m : ℕ} {a b : Out} {ys zs : List ℕ} → ys ≡ zs → Wrote m a b ys → Wrote m a b zs
as_text e p = rw e at p

-- a caller that begins a cursor on a buffer: what is left there
pub at_slice : {m r : ℕ} {old new : List ℕ} {a b : Out} {ys : List ℕ} → Wrote m a b ys → a.buf.now ≡ old → b.buf.now ≡ new → a.at ≡ 0 → b.at ≡ r → Put m old new 0 r ys
at_slice w e n f g = rw (e, n, f, g) at w.put
