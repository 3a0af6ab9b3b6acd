-- The program's lines, as bytes. "Output: `va ok pa stall`, `va fault cause`, `flush`, or `flush va`; addresses are 8 lower-case hex
-- digits, the rest decimal. Then the tallies line. A refusal prints `refused N` alone." (document 01, "The trace bundle"). Every line
-- ends with a newline.
use Rattle.std.specs.Prelude.{List, [], ◌∷◌, ◌++◌, ◌≡◌, refl, ℕ, Err, Ok, Result}
use Rattle.access.specs.declared.Denied.{Denied}
use Rattle.access.specs.declared.Place.{Place}
use Rattle.scheme.specs.Refusals.{number_of}
use Rattle.scheme.specs.declared.refusal.Refusal.{Refusal}
use Rattle.scheme.specs.declared.refusal.Refusal.TheVariants.{BadLayout}
use Rattle.tlb.specs.declared.TlbStats.{TlbStats}
use Rattle.writer.specs.Digits.{hex_digits, hex_of, decimal_in, told}

-- ---- the words, with the spaces around them

-- ` `
abbrev pub blank : List ℕ
blank = 32 ∷ []

abbrev pub newline : List ℕ
newline = 10 ∷ []

-- ` ok `
abbrev pub ok_word : List ℕ
ok_word = 32 ∷ 111 ∷ 107 ∷ 32 ∷ []

-- ` fault `
abbrev pub fault_word : List ℕ
fault_word = 32 ∷ 102 ∷ 97 ∷ 117 ∷ 108 ∷ 116 ∷ 32 ∷ []

-- `flush `
abbrev pub flush_word : List ℕ
flush_word = 102 ∷ 108 ∷ 117 ∷ 115 ∷ 104 ∷ 32 ∷ []

-- `hits `
abbrev pub hits_word : List ℕ
hits_word = 104 ∷ 105 ∷ 116 ∷ 115 ∷ 32 ∷ []

-- ` misses `
abbrev pub misses_word : List ℕ
misses_word = 32 ∷ 109 ∷ 105 ∷ 115 ∷ 115 ∷ 101 ∷ 115 ∷ 32 ∷ []

-- ` faults `
abbrev pub faults_word : List ℕ
faults_word = 32 ∷ 102 ∷ 97 ∷ 117 ∷ 108 ∷ 116 ∷ 115 ∷ 32 ∷ []

-- ` evictions `
abbrev pub evictions_word : List ℕ
evictions_word = 32 ∷ 101 ∷ 118 ∷ 105 ∷ 99 ∷ 116 ∷ 105 ∷ 111 ∷ 110 ∷ 115 ∷ 32 ∷ []

-- `refused `
abbrev pub refused_word : List ℕ
refused_word = 114 ∷ 101 ∷ 102 ∷ 117 ∷ 115 ∷ 101 ∷ 100 ∷ 32 ∷ []

-- ---- the lines

-- `va ok pa stall`
abbrev pub ok_line : ℕ → ℕ → ℕ → List ℕ
ok_line va pa stall = hex_of va ++ (ok_word ++ (hex_of pa ++ (told blank stall ++ newline)))

-- `va fault cause`
abbrev pub fault_line : ℕ → ℕ → List ℕ
fault_line va cause = hex_of va ++ (told fault_word cause ++ newline)

-- `flush`
abbrev pub flush_line : List ℕ
flush_line = 102 ∷ 108 ∷ 117 ∷ 115 ∷ 104 ∷ newline

-- `flush va`
abbrev pub flush_at_line : ℕ → List ℕ
flush_at_line va = flush_word ++ (hex_of va ++ newline)

-- `hits 2 misses 3 faults 1 evictions 0`
abbrev pub tallies_line : TlbStats → List ℕ
tallies_line s =
    told hits_word s.hits ++
    (told misses_word s.misses ++ (told faults_word s.page_faults ++ (told evictions_word s.evictions ++ newline)))

-- `refused N`
abbrev pub refused_line : Refusal → List ℕ
refused_line r = told refused_word (number_of r) ++ newline

-- the line of an access at va
abbrev pub answer_line : ℕ → Result Place Denied → List ℕ
answer_line va (Ok p) = ok_line va p.paddr p.stall
answer_line va (Err (Denied.Fault f)) = fault_line va f.cause
answer_line va (Err (Denied.Refused r)) = refused_line r

-- ---- case T's lines, and a refusal

-- `003ffffc ok 003ffffc 1`
case_t_ok : answer_line 0x3ffffc (Ok (record { paddr = 0x3ffffc; stall = 1 }))
    ≡ 48 ∷ 48 ∷ 51 ∷ 102 ∷ 102 ∷ 102 ∷ 102 ∷ 99 ∷ 32 ∷ 111 ∷ 107 ∷ 32 ∷ 48 ∷ 48 ∷ 51 ∷ 102 ∷ 102 ∷ 102 ∷ 102 ∷ 99 ∷ 32 ∷ 49 ∷ 10 ∷ []
unfolding hex_digits decimal_in
case_t_ok = refl

-- `00000000 fault 13`
case_t_fault : answer_line 0 (Err (Denied.Fault (record { cause = 13; vaddr = 0 })))
    ≡ 48 ∷ 48 ∷ 48 ∷ 48 ∷ 48 ∷ 48 ∷ 48 ∷ 48 ∷ 32 ∷ 102 ∷ 97 ∷ 117 ∷ 108 ∷ 116 ∷ 32 ∷ 49 ∷ 51 ∷ 10 ∷ []
unfolding hex_digits decimal_in
case_t_fault = refl

-- `refused 8`
refused_8 : refused_line BadLayout ≡ 114 ∷ 101 ∷ 102 ∷ 117 ∷ 115 ∷ 101 ∷ 100 ∷ 32 ∷ 56 ∷ 10 ∷ []
unfolding decimal_in
refused_8 = refl

-- `hits 2 misses 3 faults 1 evictions 0`
case_t_tallies : tallies_line (record { hits = 2; misses = 3; evictions = 0; page_faults = 1 })
    ≡ 104 ∷ 105 ∷ 116 ∷ 115 ∷ 32 ∷ 50 ∷ 32 ∷ 109 ∷ 105 ∷ 115 ∷ 115 ∷ 101 ∷ 115 ∷ 32 ∷ 51 ∷ 32 ∷ 102 ∷ 97 ∷ 117 ∷ 108 ∷ 116 ∷ 115 ∷ 32 ∷ 49 ∷ 32 ∷ 101 ∷ 118 ∷ 105 ∷ 99 ∷ 116 ∷ 105 ∷ 111 ∷ 110 ∷ 115 ∷ 32 ∷ 48 ∷ 10 ∷ []
unfolding decimal_in
case_t_tallies = refl
