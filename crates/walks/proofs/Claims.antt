-- A proof of each statement in specs/Claims.antt.
use Prim.Native.Nat.{ℕ, ◌+◌, ◌≤◌, ◌<◌}
use native.Mathlib.Nat.{min-le_left, dvd_of_mod-eq-zero, zero-add}
use native.Mathlib.Omega.{arith}
use mathlib.Core.Path.{◌≡◌, refl, subst, subst⁻¹, ◌∙◌}
use mathlib.Core.List.{List, [], ◌∷◌}
use mathlib.Core.Bool.{Bool, true, false, cond}
use lib.ListN.{length, length-take}
use lib.Dec.{lit<}
use Rattle.pte.specs.Entry.{ppn_of}
use Rattle.pte.proofs.Short.{ppn_short, high_short}
use Rattle.scheme.specs.Scheme.{total, widths_of, is_sv39, sv32, sv39, format_of}
use Rattle.scheme.specs.Satp.{root_of}
use Rattle.scheme.specs.declared.Format.{Format}
use Rattle.scheme.specs.declared.PagingScheme.{PagingScheme}
use Rattle.scheme.proofs.Widths.{Valid, valid}
use Rattle.walker.specs.Descent.{seek, top_ok, descent_in, descent_of}
use Rattle.walker.proofs.Ends.{Read, OfPage, whole_read, ends_within}
use Rattle.walk.specs.Verdict.{judge_of, verdict_in, walk_of}
use Rattle.walk.specs.Answer.{words_of}
use Rattle.walk.proofs.Judged.{end_page}
use Rattle.walks.specs.Plain.{Sound}
use Rattle.walks.specs.Asked.{asked_for, all_asked}
use Rattle.walks.specs.Claims.{TopOf01, TopOf39, Words, WordsWithin, WordsAsked, LeafIsRead, MarksKeepVerdicts, MarksKeepDescents, BlocksEndAlike}
use Rattle.walks.specs.Claims.{SchemeBlocks, OursIsSound, ShortWords, NothingWraps, SatpReadsBack}
use Rattle.walks.proofs.Asked.{seek_asked}
use Rattle.walks.proofs.Blocks.{descent_low, descent_high, descent_same}
use Rattle.walks.proofs.Blocks as blocks
use Rattle.walks.proofs.Steady as steady
use Rattle.walks.proofs.Marks.{walk_same}
use Rattle.walks.proofs.Verdicts.{verdict_same, words_at}
use Rattle.walks.proofs.Tops.{low_right, high_wrong, equal_right, right_equal, is_39}
use Rattle.walks.proofs.Formats.{uncut, ppn_lt, root_lt, reads_back}

-- a valid scheme has a width
some_width : (s : PagingScheme) → Valid s → 0 < length (widths_of s)
unfolding total
some_width s v = go (widths_of s) v.least
  where
    go : (ws : List ℕ) → 32 ≤ s.offset_bits + total ws → 0 < length ws
    go [] e = absurd (omega (arith, v.offset_high))
    go (w ∷ ws) e = omega arith

pub words_within : WordsWithin
unfolding descent_of descent_in judge_of
words_within s root ram q ok = go (top_ok f q.vaddr) refl
  where
    f : Format
    f = format_of s

    go : (b : Bool) → top_ok f q.vaddr ≡ b → Words s q.vaddr (words_of f q.vaddr (walk_of s root ram q))
    go false e = rw (e, e) record { most = omega arith; some = λ t. let z : ◌≡◌ {A = ℕ} 0 1 = cc in absurd (omega arith); none = λ t. refl }
    go true e =
        let l = ends_within f ram q.vaddr s.offset_bits (widths_of s) 0 root (length (widths_of s)) (some_width s (valid s ok)) (omega arith) in
        let few : length (widths_of s) ≤ s.levels = rw length-take (min-le_left _ _) in
        let n = words_at f q e (descent_of ram root s q.vaddr) in
        let d : (descent_of ram root s q.vaddr).level ≡ (seek f ram q.vaddr s.offset_bits (widths_of s) 0 root).level = rw e in
        record { most = omega (arith, n, d); some = λ t. omega (arith, n); none = λ t. let z : ◌≡◌ {A = ℕ} 0 1 = cc in absurd (omega arith) }

pub words_asked : WordsAsked
unfolding descent_in judge_of
words_asked f offset w ws root ram q = go (top_ok f q.vaddr) refl
  where
    go : (b : Bool) → top_ok f q.vaddr ≡ b
        → words_of f q.vaddr (verdict_in f offset (w ∷ ws) root ram q) ≡ length (all_asked f ram q.vaddr offset (w ∷ ws) root)
    go false e = rw (e, e)
    go true e =
        words_at f q e (descent_in f ram q.vaddr offset (w ∷ ws) root)
        ∙ rw e (seek_asked f ram q.vaddr offset w ws 0 root ∙ zero-add (length (asked_for f ram q.vaddr offset (w ∷ ws) root)))

pub leaf_is_read : LeafIsRead
unfolding judge_of
leaf_is_read f offset ws root ram q l h =
    let e = end_page q _ _ (descent_in f ram q.vaddr offset ws root).end l h in
    let r = subst (OfPage f (Read f ram)) e (whole_read f ram q.vaddr offset ws root) in
    (r.in_ram, r.word)

pub marks_keep_descents : MarksKeepDescents
marks_keep_descents f o ram small offset ws root q offset' ws' root' va' =
    steady.descent_same f o ram _ (walk_same f o ram small q offset ws root) va' offset' ws' root'

pub marks_keep_verdicts : MarksKeepVerdicts
marks_keep_verdicts f o ram small offset ws root q offset' ws' root' q' =
    verdict_same q' _ _ (marks_keep_descents f o ram small offset ws root q offset' ws' root' q'.vaddr)

pub blocks_end_alike : BlocksEndAlike
blocks_end_alike f offset ws root ram va va' top h = blocks.whole_alike f ram offset ws root va va' top h

pub scheme_blocks : SchemeBlocks
scheme_blocks s root ram va ok = record {
  low = descent_low ram root s va ok;
  high = descent_high ram root s va ok;
  alike = descent_same ram root s va ok;
}

pub ours_is_sound : OursIsSound
unfolding format_of
ours_is_sound s = go (is_sv39 s)
  where
    go : (b : Bool) → Sound (cond b sv39 sv32)
    go true = record { some = lit< tt; in_page = dvd_of_mod-eq-zero 8 refl; in_space = dvd_of_mod-eq-zero 8 refl }
    go false = record { some = lit< tt; in_page = dvd_of_mod-eq-zero 4 refl; in_space = dvd_of_mod-eq-zero 4 refl }

-- ---- the tops and the formats

pub top_of_01 : TopOf01
top_of_01 s e va = (low_right s e va, high_wrong s e va)

pub top_of_39 : TopOf39
top_of_39 s e va h = (
  (λ same. subst⁻¹ (λ (f : Format). top_ok f va ≡ true) (is_39 s e) (equal_right va h same)),
  (λ right. right_equal va h (subst (λ (f : Format). top_ok f va ≡ true) (is_39 s e) right)),
)

pub short_words : ShortWords
short_words w h = (ppn_short w h, high_short w h)

pub nothing_wraps : NothingWraps
nothing_wraps s e w = (uncut (ppn_of w) (ppn_lt w) s e, uncut (root_of s w) (root_lt s e w) s e)

pub satp_reads_back : SatpReadsBack
unfolding format_of
satp_reads_back s root asid = reads_back (is_sv39 s) root asid
