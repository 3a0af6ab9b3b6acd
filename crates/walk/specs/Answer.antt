-- What a walk answers and what it leaves in RAM, read off its verdict.
use Rattle.std.specs.Prelude.{ℕ, ◌+◌, List, cond, eqb, Err, Ok, Result}
use Rattle.scheme.specs.declared.refusal.Refusal.{Refusal}
use Rattle.walk.specs.declared.Fault.{Fault}
use Rattle.bits.specs.Bits.{with_bit, with_low}
use Rattle.pte.specs.Entry.{perms_of, global_bit, ppn_of, a_place, d_place}
use Rattle.memory.specs.Word.{put_at}
use Rattle.scheme.specs.Access.{cause_of}
use Rattle.scheme.specs.Scheme.{valid_of, format_of}
use Rattle.scheme.specs.declared.access.AccessType.{AccessType}
use Rattle.scheme.specs.declared.access.AccessType.TheVariants.{Fetch, Load, Store}
use Rattle.scheme.specs.declared.PagingScheme.{PagingScheme}
use Rattle.scheme.specs.declared.refusal.Refusal.TheVariants.{BadScheme}
use Rattle.scheme.specs.declared.Format.{Format}
use Rattle.walker.specs.Descent.{frame, top_ok}
use Rattle.walk.specs.Verdict.{walk_of}
use Rattle.walk.specs.declared.Access.{Access}
use Rattle.walk.specs.declared.LeafAt.{LeafAt}
use Rattle.walk.specs.declared.WalkResult.{WalkResult}
use Rattle.walk.specs.declared.WalkAnswer.{WalkAnswer}

-- ---- the marks

-- "An accepted leaf gets bit 6, and for a store bit 7"
abbrev pub mark_of : AccessType → ℕ → ℕ
mark_of Fetch w = with_bit a_place w
mark_of Load w = with_bit a_place w
mark_of Store w = with_bit d_place (with_bit a_place w)

-- RAM with the word w at a marked, "written only if one was missing"
unfoldable pub mark_in : Format → AccessType → List ℕ → ℕ → ℕ → List ℕ
mark_in f kind ram a w = cond (eqb (mark_of kind w) w) ram (put_at f.bytes ram a (mark_of kind w))

-- what a walk leaves in RAM
abbrev pub marked_by : Format → AccessType → List ℕ → Result LeafAt Fault → List ℕ
marked_by f kind ram (Ok l) = mark_in f kind ram l.at l.raw
marked_by f kind ram (Err stop) = ram

-- ---- the answer

-- "The address is the frame, PPN times 4096 kept to 32 bits, with the low (shift) bits taken from the virtual address";
-- so many bits or more as the frame has are the whole of it
abbrev pub physical_of : Format → ℕ → ℕ → ℕ → ℕ
physical_of f ppn shift va = with_low shift (frame f ppn) va

abbrev pub result_of : Format → ℕ → LeafAt → WalkResult
result_of f va l =
    record {
      paddr = physical_of f (ppn_of l.raw) l.shift va;
      ppn = ppn_of l.raw;
      page_bits = l.shift;
      perms = perms_of l.raw;
      global = global_bit l.raw;
      leaf_level = l.level;
    }

-- "the answer tells how many words were asked for, an unreadable one included": one at each level down to where the walk ends, and
-- none where the address's top is wrong
abbrev pub words_to : Format → ℕ → ℕ → ℕ
words_to f va level = cond (top_ok f va) (level + 1) 0

abbrev pub words_of : Format → ℕ → Result LeafAt Fault → ℕ
words_of f va (Ok l) = l.level + 1
words_of f va (Err stop) = words_to f va stop.level

-- "Causes: fetch 12, load 13, store 15, with the virtual address"
abbrev pub answer_of : Format → Access → Result LeafAt Fault → WalkAnswer
answer_of f q (Ok l) = record { words = words_of f q.vaddr (Ok l); answer = Ok (result_of f q.vaddr l) }
answer_of f q (Err stop) =
    record {
      words = words_of f q.vaddr (Err stop);
      answer = Err (record { cause = cause_of q.kind; vaddr = q.vaddr });
    }

-- ---- the published walk: refusal 1, "given exactly when": "the scheme is not valid", with RAM as it was

unfoldable pub walk_reply : PagingScheme → ℕ → List ℕ → Access → Result WalkAnswer Refusal
walk_reply s root ram q = cond (valid_of s) (Ok (answer_of (format_of s) q (walk_of s root ram q))) (Err BadScheme)

unfoldable pub walk_ram : PagingScheme → ℕ → List ℕ → Access → List ℕ
walk_ram s root ram q = cond (valid_of s) (marked_by (format_of s) q.kind ram (walk_of s root ram q)) ram
