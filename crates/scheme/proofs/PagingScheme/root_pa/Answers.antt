-- `root_pa`: the top table has at most eight frames, so no sum wraps; a RAM that is smaller gives 0, as the cut difference.
use Rattle.std.proofs.Common.{◌≡◌, ℕ, ◌-◌, ◌*◌, ◌/◌, ◌^◌, ◌%◌, ◌≤◌, true, arith, rules, length, get_or, sym, ap, ◌∙◌}
use Rattle.scheme.specs.Scheme.{valid_of, widths_of, round_up, root_pa, format_of}
use Rattle.scheme.specs.declared.Format.{Format}
use Rattle.scheme.proofs.Widths.{valid}
use Rattle.scheme.proofs.Levels.{width_high, table_high, table_bytes_lem, modest}
use Rattle.scheme.proofs.Answered.{granted, refused}
use Rattle.scheme.proofs.PagingScheme.root_pa.Goals.{After-from, Else-not-is_valid}
use Rattle.scheme.proofs.PagingScheme.root_pa.Goals as goal

pub returns-then-not-is_valid : goal.returns-then-not-is_valid
unfolding root_pa
returns-then-not-is_valid c = refused _ _ (sym c.is_valid.ensures ∙ c.if-not-is_valid.true)

-- the test passed, so the scheme is valid
is_valid : (c : Else-not-is_valid) → valid_of c.args.self ≡ true
is_valid c = sym c.is_valid.ensures ∙ c.if-not-is_valid.false

long : (c : Else-not-is_valid) → length c.args.self.level_bits ≡ 4
long c = search rules

-- the top table's bytes
abbrev size : After-from → ℕ
size c = c.from.result

is_size : (c : After-from) → size c ≡ (format_of c.args.self).bytes
is_size c = c.from.ensures ∙ ap (λ (f : Format). f.bytes) c.format.ensures

small : (c : After-from) → size c ≤ 8
small c = rw (is_size c) ((modest _).short)

bytes : (c : After-from) → size c * 2 ^ get_or c.args.self.level_bits 0 0 % 2 ^ 64 ≡ size c * 2 ^ get_or (widths_of c.args.self) 0 0
bytes c =
    let k = (goal.at.overflow_shl-bytes c).Else-not-is_valid in
    let v = valid _ (is_valid k) in
    table_bytes_lem _ (long k) v 0 v.some (size c) (small c)

few : (c : After-from) → size c * 2 ^ get_or (widths_of c.args.self) 0 0 ≤ 32768
few c =
    let k = (goal.at.overflow_shl-bytes c).Else-not-is_valid in
    let v = valid _ (is_valid k) in
    table_high _ (long k) v 0 v.some (size c) (small c)

-- in the scheme's format
bytes_said : (c : After-from) → size c * 2 ^ get_or (widths_of c.args.self) 0 0 ≡ (format_of c.args.self).bytes * 2 ^ get_or (widths_of c.args.self) 0 0
bytes_said c = ap (λ (n : ℕ). n * 2 ^ get_or (widths_of c.args.self) 0 0) (is_size c)

pub overflow_shl-bytes : goal.overflow_shl-bytes
overflow_shl-bytes c =
    let k = (goal.at.overflow_shl-bytes c).Else-not-is_valid in
    let v = valid _ (is_valid k) in
    omega (arith, width_high _ (long k) v 0 v.some)

pub overflow_add-room : goal.overflow_add-room
overflow_add-room c = omega (arith, bytes c, few c)

pub overflow_mul-room : goal.overflow_mul-room
overflow_mul-room c = omega (arith, bytes c, few c)

pub returns : goal.returns
unfolding root_pa
returns c =
    let from = (goal.at.returns c).After-from in
    granted _ _ _ (is_valid (goal.at.returns c).Else-not-is_valid)
    (ap (λ (n : ℕ). n / 4096 * 4096) c.saturating_sub.ensures
    ∙ ap (λ (n : ℕ). (c.args.mem_size - round_up n) / 4096 * 4096) (bytes from ∙ bytes_said from))
