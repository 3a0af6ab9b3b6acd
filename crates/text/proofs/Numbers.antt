-- The numbers that a line tells are short: a refusal's, and the causes of every access on a fit state, as `put_answer` asks.
use Rattle.std.specs.Prelude.{Err, None, Ok, Option, Result, Some}
use Rattle.walk.specs.declared.Fault.{Fault}
use Rattle.walk.specs.declared.LeafAt.{LeafAt}
use mathlib.Core.Bool.{Bool, true, false, cond}
use mathlib.Core.List.{List}
use mathlib.Core.Path.{◌≡◌}
use Prim.Native.Nat.{ℕ, ◌<◌, ◌≤◌}
use native.Mathlib.Omega.{arith}
use lib.ListN.{length}
use Rattle.writer.specs.Digits.{decimal_of}
use Rattle.writer.proofs.Decimals.{two}
use Rattle.scheme.specs.Access.{cause_of}
use Rattle.scheme.specs.Refusals.{number_of}
use Rattle.scheme.specs.declared.refusal.Refusal.{Refusal}
use Rattle.scheme.specs.declared.refusal.Refusal.TheVariants.{BadScheme, TooManyEntries, Unfit, RootUnaligned}
use Rattle.scheme.specs.declared.refusal.Refusal.TheVariants.{TopTableOutside, BadFlags, NoRoom, BadLayout, BadMode}
use Rattle.scheme.specs.declared.access.AccessType.{AccessType}
use Rattle.scheme.specs.declared.access.AccessType.TheVariants.{Fetch, Load, Store}
use Rattle.walk.specs.declared.Access.{Access}
use Rattle.entry.specs.declared.TlbEntry.{TlbEntry}
use Rattle.state.specs.declared.Mmu.{Mmu}
use Rattle.access.specs.Translate.{bypassed, cause_in, consult_of, entry_permits, found_served, look_served, miss_walk, passed_of, served_of, walk_served}
use Rattle.access.specs.declared.Served.{Served}

refusal_below : (r : Refusal) → number_of r < 100
refusal_below BadScheme = omega arith
refusal_below TooManyEntries = omega arith
refusal_below Unfit = omega arith
refusal_below RootUnaligned = omega arith
refusal_below TopTableOutside = omega arith
refusal_below BadFlags = omega arith
refusal_below NoRoom = omega arith
refusal_below BadLayout = omega arith
refusal_below BadMode = omega arith

pub refusal_digits : (n : ℕ) (r : Refusal) → n ≡ number_of r → length (decimal_of n) ≤ 2
refusal_digits n r e = two n (rw e (refusal_below r))

abbrev pub Short : Served → Type 0
Short x = cause_in x.said.outcome < 1000

known : (k : AccessType) → cause_of k < 1000
known Fetch = omega arith
known Load = omega arith
known Store = omega arith

pub either : (b : Bool) (x y : Served) → Short x → Short y → Short (cond b x y)
either true x y p q = p
either false x y p q = q

found : (m : Mmu) (e : TlbEntry) (q : Access) → Short (found_served m e q)
unfolding found_served
found m e q = either (entry_permits e q) _ _ (omega arith) (known q.kind)

walked : (m : Mmu) (q : Access) (v : Result LeafAt Fault) → Short (walk_served m q v)
unfolding walk_served
walked m q (Ok l) = omega arith
walked m q (Err stop) = known q.kind

looked : (m : Mmu) (q : Access) (ram : List ℕ) (l : Option TlbEntry) → Short (look_served m q ram l)
looked m q ram (Some e) = found m e q
looked m q ram None = walked m q (miss_walk m q ram)

pub served_short : (m : Mmu) (q : Access) (ram : List ℕ) → Short (served_of m q ram)
unfolding served_of
served_short m q ram =
    either (bypassed m q) (passed_of m q) _ (omega arith) (looked (consult_of m q).mmu q ram (consult_of m q).lookup)
