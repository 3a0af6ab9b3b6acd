-- What an access is to get and to earn, by a plain walk over the starting RAM: no cache, no order, no other access enters.
use Rattle.std.specs.Prelude.{ℕ, Bool, false, not, cond, ◌&&◌, ◌||◌, List, [], ◌∷◌, eqb, Err, Ok, Result}
use Rattle.walk.specs.declared.Fault.{Fault}
use Rattle.walk.specs.declared.LeafAt.{LeafAt}
use Rattle.memory.specs.Word.{le_at}
use Rattle.pte.specs.Entry.{ppn_of}
use Rattle.scheme.specs.Access.{cause_of}
use Rattle.scheme.specs.Satp.{root_of}
use Rattle.scheme.specs.Scheme.{format_of}
use Rattle.scheme.specs.declared.Format.{Format}
use Rattle.walk.specs.Answer.{mark_in, physical_of}
use Rattle.walk.specs.Verdict.{walk_of}
use Rattle.walk.specs.declared.Access.{Access}
use Rattle.access.specs.Translate.{is_store, passes_with}
use Rattle.session.specs.declared.Settings.{Settings}
use Rattle.order.specs.Runs.{Heard, At, Faults}

-- "not enabled, or Bare, or machine mode without `force_translate`"
abbrev pub passes : Settings → Access → Bool
passes s q = passes_with s.scheme s.enabled s.force s.satp q.mode

abbrev pub plain_walk : Settings → List ℕ → Access → Result LeafAt Fault
plain_walk s ram q = walk_of s.scheme (root_of s.scheme s.satp) ram q

-- ---- the answer

unfoldable pub verdict_heard : Format → Access → Result LeafAt Fault → Heard
verdict_heard f q (Ok l) = At (physical_of f (ppn_of l.raw) l.shift q.vaddr)
verdict_heard f q (Err stop) = Faults (cause_of q.kind) q.vaddr

-- "its own address where bypassed, else the address or fault of a plain walk over the starting RAM"
unfoldable pub plain_answer : Settings → List ℕ → Access → Heard
plain_answer s start q = cond (passes s q) (At q.vaddr) (verdict_heard (format_of s.scheme) q (plain_walk s start q))

-- ---- the marks

-- the word that now stands at an accepted leaf's place "gets bit 6, and for a store bit 7"
unfoldable pub verdict_marks : Format → Access → Result LeafAt Fault → List ℕ → List ℕ
verdict_marks f q (Ok l) ram = mark_in f q.kind ram l.at (le_at f.bytes ram l.at)
verdict_marks f q (Err stop) ram = ram

-- the marks that an access earns: none where bypassed, else those of its plain walk over the starting RAM
unfoldable pub earned : Settings → List ℕ → Access → List ℕ → List ℕ
earned s start q ram = cond (passes s q) ram (verdict_marks (format_of s.scheme) q (plain_walk s start q) ram)

-- "the starting bytes plus the marks those accesses earn": the marks of a list, made in a RAM
unfoldable pub all_marks : Settings → List ℕ → List Access → List ℕ → List ℕ
all_marks s start [] ram = ram
all_marks s start (q ∷ l) ram = all_marks s start l (earned s start q ram)

-- ---- the same, byte by byte

-- a leaf at k, which the access may use
unfoldable pub page_at : Result LeafAt Fault → ℕ → Bool
page_at (Ok l) k = eqb l.at k
page_at (Err stop) k = false

-- whether an access earns bit 6 of the byte at k: a leaf's marks lie in the low byte of its word
unfoldable pub earns_a : Settings → List ℕ → ℕ → Access → Bool
earns_a s start k q = not (passes s q) && page_at (plain_walk s start q) k

-- and bit 7: by a store
unfoldable pub earns_d : Settings → List ℕ → ℕ → Access → Bool
earns_d s start k q = is_store q.kind && earns_a s start k q

-- whether some access of a list does
unfoldable pub some_of : (Access → Bool) → List Access → Bool
some_of f [] = false
some_of f (q ∷ l) = f q || some_of f l
