-- What holds of every walk, for every table format, list of widths, RAM, asker and address. proofs/Claims.antt has a proof of each.
use Rattle.std.specs.Prelude.{ℕ, ◌+◌, ◌*◌, ◌/◌, ◌%◌, ◌^◌, ◌≤◌, ◌<◌, ◌≡◌, List, ◌∷◌, true, false, length, Ok}
use Rattle.bits.specs.Bits.{bit, field_of}
use Rattle.pte.specs.Entry.{ppn_of, high_bits}
use Rattle.memory.specs.Word.{readable, le_at}
use Rattle.scheme.specs.Satp.{mode_in, asid_in, root_in, root_of, satp_in}
use Rattle.scheme.specs.Scheme.{valid_of, is_sv39, format_of}
use Rattle.scheme.specs.declared.satp.SatpMode.TheVariants.{Paged}
use Rattle.scheme.specs.declared.Format.{Format}
use Rattle.scheme.specs.declared.PagingScheme.{PagingScheme}
use Rattle.walker.specs.Descent.{place, top_ok, descent_in, descent_of}
use Rattle.walk.specs.Answer.{words_of, marked_by, physical_of}
use Rattle.walk.specs.Verdict.{verdict_in, walk_of}
use Rattle.walk.specs.declared.Access.{Access}
use Rattle.walk.specs.declared.LeafAt.{LeafAt}
use Rattle.walks.specs.Asked.{all_asked}
use Rattle.walks.specs.Plain.{plain_descent, plain_verdict, Bytes, Sound}

-- ---- the address's top, "tested as the walk's first step"

-- document 01's schemes: every address of 32 bits has a right one, and no other has
abbrev pub TopOf01 : Type 0
TopOf01 =
    (s : PagingScheme) → is_sv39 s ≡ false → (va : ℕ)
    → (va < 2 ^ 32 → top_ok (format_of s) va ≡ true) × (2 ^ 32 ≤ va → top_ok (format_of s) va ≡ false)

-- Sv39, of an address of 64 bits: "address bits 63-39 all equal to bit 38"
abbrev pub TopOf39 : Type 0
TopOf39 =
    (s : PagingScheme) → is_sv39 s ≡ true → (va : ℕ) → va < 2 ^ 64
    → (((k : ℕ) → 38 < k → k < 64 → bit k va ≡ bit 38 va) → top_ok (format_of s) va ≡ true)
    × (top_ok (format_of s) va ≡ true → (k : ℕ) → 38 < k → k < 64 → bit k va ≡ bit 38 va)

-- ---- the words asked for

-- a walk asks for "never more than the levels", for at least one word, and for none where the address's top is wrong
pub record Words (s : PagingScheme) (va n : ℕ) : Type 0 where
  pub most : n ≤ s.levels
  pub some : top_ok (format_of s) va ≡ true → 1 ≤ n
  pub none : top_ok (format_of s) va ≡ false → n ≡ 0

abbrev pub WordsWithin : Type 0
WordsWithin =
    (s : PagingScheme) (root : ℕ) (ram : List ℕ) (q : Access) → valid_of s ≡ true
    → Words s q.vaddr (words_of (format_of s) q.vaddr (walk_of s root ram q))

-- "the answer tells how many words were asked for"
abbrev pub WordsAsked : Type 0
WordsAsked =
    (f : Format) (offset w : ℕ) (ws : List ℕ) (root : ℕ) (ram : List ℕ) (q : Access)
    → words_of f q.vaddr (verdict_in f offset (w ∷ ws) root ram q) ≡ length (all_asked f ram q.vaddr offset (w ∷ ws) root)

-- an accepted leaf was readable, and is the word in RAM
abbrev pub LeafIsRead : Type 0
LeafIsRead =
    (f : Format) (offset : ℕ) (ws : List ℕ) (root : ℕ) (ram : List ℕ) (q : Access) (l : LeafAt)
    → verdict_in f offset ws root ram q ≡ Ok l
    → (readable f.space f.bytes ram l.at ≡ true) × (le_at f.bytes ram l.at ≡ l.raw)

-- ---- the marks

-- what a walk marks changes no walk's verdict but for A and D: not its own, nor that of another asker, address, root or list of widths
abbrev pub MarksKeepVerdicts : Type 0
MarksKeepVerdicts =
    (f : Format) → Sound f → (ram : List ℕ) → Bytes ram
    → (offset : ℕ) (ws : List ℕ) (root : ℕ) (q : Access)
    → (offset' : ℕ) (ws' : List ℕ) (root' : ℕ) (q' : Access)
    → plain_verdict (verdict_in f offset' ws' root' ram q')
    ≡ plain_verdict (verdict_in f offset' ws' root' (marked_by f q.kind ram (verdict_in f offset ws root ram q)) q')

-- the same of the descent, which asks nothing about who asks
abbrev pub MarksKeepDescents : Type 0
MarksKeepDescents =
    (f : Format) → Sound f → (ram : List ℕ) → Bytes ram
    → (offset : ℕ) (ws : List ℕ) (root : ℕ) (q : Access)
    → (offset' : ℕ) (ws' : List ℕ) (root' va' : ℕ)
    → plain_descent (descent_in f ram va' offset' ws' root')
    ≡ plain_descent (descent_in f (marked_by f q.kind ram (verdict_in f offset ws root ram q)) va' offset' ws' root')

-- every scheme's format is one of those that these two speak of
abbrev pub OursIsSound : Type 0
OursIsSound = (s : PagingScheme) → Sound (format_of s)

-- ---- pages and holes

-- they are blocks: every address alike from the end's shift up, whose top is right or wrong as well, comes to the same leaf or the same stop
abbrev pub BlocksEndAlike : Type 0
BlocksEndAlike =
    (f : Format) (offset : ℕ) (ws : List ℕ) (root : ℕ) (ram : List ℕ) (va va' : ℕ)
    → top_ok f va' ≡ top_ok f va
    → va' / 2 ^ (descent_in f ram va offset ws root).shift ≡ va / 2 ^ (descent_in f ram va offset ws root).shift
    → descent_in f ram va' offset ws root ≡ descent_in f ram va offset ws root

-- of a valid scheme such a block has 4 KiB or more, less than 4 GiB, and one top
pub record Block (s : PagingScheme) (root : ℕ) (ram : List ℕ) (va : ℕ) : Type 0 where
  pub low : 12 ≤ (descent_of ram root s va).shift
  pub high : (descent_of ram root s va).shift < 32
  pub alike : (va' : ℕ) → va' / 2 ^ (descent_of ram root s va).shift ≡ va / 2 ^ (descent_of ram root s va).shift
      → descent_of ram root s va' ≡ descent_of ram root s va

abbrev pub SchemeBlocks : Type 0
SchemeBlocks = (s : PagingScheme) (root : ℕ) (ram : List ℕ) (va : ℕ) → valid_of s ≡ true → Block s root ram va

-- ---- the two formats

-- "the PPN is bits 31-10" of a word of 32 bits, which has no high bits
abbrev pub ShortWords : Type 0
ShortWords = (w : ℕ) → w < 2 ^ 32 → (ppn_of w ≡ field_of 10 22 w) × (high_bits w ≡ false)

-- "Frames are not cut to 32 bits and nothing wraps": on Sv39 a table's entry and a leaf's address are plain sums, from a PPN of 44 bits
pub record Uncut (s : PagingScheme) (ppn : ℕ) : Type 0 where
  pub entry : (i : ℕ) → i < 512 → place (format_of s) ppn i ≡ ppn * 4096 + 8 * i
  pub address : (shift va : ℕ) → ppn * 4096 % 2 ^ shift ≡ 0 → physical_of (format_of s) ppn shift va ≡ ppn * 4096 + va % 2 ^ shift

-- which an entry's and satp's are
abbrev pub NothingWraps : Type 0
NothingWraps = (s : PagingScheme) → is_sv39 s ≡ true → (w : ℕ) → Uncut s (ppn_of w) × Uncut s (root_of s w)

-- the satp that is made for a root and an ASID turns translation on, and has both
pub record ReadsBack (f : Format) (root asid : ℕ) : Type 0 where
  pub on : mode_in f (satp_in f root asid) ≡ Paged
  pub asid_is : asid_in f (satp_in f root asid) ≡ asid % 2 ^ f.asid_bits
  pub root_is : root_in f (satp_in f root asid) ≡ root / 4096 % 2 ^ f.asid_at

abbrev pub SatpReadsBack : Type 0
SatpReadsBack = (s : PagingScheme) (root asid : ℕ) → ReadsBack (format_of s) root asid
