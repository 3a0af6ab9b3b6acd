-- The judgement of a leaf by who asks, and a walk's verdict: where it ends, with the level and, of a fault, the reason. All that a walk
-- answers and writes is read off it (Answer.antt). Steps are numbered as in the privileged manual's translation process.
use Rattle.std.specs.Prelude.{ℕ, List, Bool, true, false, not, Err, Ok, Result}
use Rattle.walk.specs.declared.Fault.{Fault}
use Rattle.walker.specs.declared.LeafWord.{LeafWord}
use Rattle.pte.specs.Entry.{perms_of}
use Rattle.scheme.specs.declared.PagingScheme.{PagingScheme}
use Rattle.scheme.specs.declared.Format.{Format}
use Rattle.walker.specs.Descent.{descent_in, descent_of}
use Rattle.walker.specs.declared.Reason.{Reason}
use Rattle.walker.specs.declared.Reason.TheVariants.{NoRight, Privilege}
use Rattle.walker.specs.declared.Descent.{Descent}
use Rattle.walk.specs.Rights.{allows, open_to}
use Rattle.walk.specs.declared.Access.{Access}
use Rattle.walk.specs.declared.LeafAt.{LeafAt}

-- the fault `why` if a test says so, and else what comes next
unfoldable pub fault_if : Bool → Reason → ℕ → Result LeafAt Fault → Result LeafAt Fault
fault_if true why level next = Err (record { why = why; level = level })
fault_if false why level next = next

-- what an aligned leaf comes to
unfoldable pub leaf_judged : Access → LeafAt → Result LeafAt Fault
leaf_judged q l =
    -- step 5: "X, R or W as the access needs"
    fault_if (not (allows q.kind (perms_of l.raw))) NoRight l.level
    -- step 5: "U must be set in user mode, clear in supervisor mode"
    (fault_if (not (open_to q.mode (perms_of l.raw))) Privilege l.level
    (Ok l))

abbrev pub end_judged : Access → ℕ → ℕ → Result LeafWord Reason → Result LeafAt Fault
end_judged q shift level (Err why) = Err (record { why = why; level = level })
end_judged q shift level (Ok leaf) = leaf_judged q (record { raw = leaf.raw; at = leaf.at; shift = shift; level = level })

-- what a descent comes to
unfoldable pub judge_of : Access → Descent → Result LeafAt Fault
judge_of q d = end_judged q d.shift d.level d.end

-- the walk over a format and a list of widths: the descent for the address, then the judgement
abbrev pub verdict_in : Format → ℕ → List ℕ → ℕ → List ℕ → Access → Result LeafAt Fault
verdict_in f offset ws root ram q = judge_of q (descent_in f ram q.vaddr offset ws root)

-- the same of a scheme, in its format
abbrev pub walk_of : PagingScheme → ℕ → List ℕ → Access → Result LeafAt Fault
walk_of s root ram q = judge_of q (descent_of ram root s q.vaddr)
