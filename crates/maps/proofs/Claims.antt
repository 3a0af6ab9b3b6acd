-- A proof of each statement in specs/Claims.antt.
use native.Mathlib.Omega.{arith}
use mathlib.Core.Path.{ap}
use Rattle.memory.specs.Word.{le_at}
use Rattle.maps.specs.Claims.{TheSum, EveryAccessIsSent, TheSumIsTheAddress, RulesAgree, RulesDiffer}
use Rattle.maps.specs.Claims.{CountIsWritten, WrittenOnce, OutsideKept, GapsKept, BytesStay}
use Rattle.maps.proofs.Apart.{tables_distinct}
use Rattle.maps.proofs.Tables.{tables_full, tables_count}
use Rattle.maps.proofs.Kept.{byte_same, bytes_same, above_same, below_same, gaps_same}
use Rattle.maps.proofs.Counted.{counted, count_refused}
use Rattle.installer.proofs.Install.{granted}
use Rattle.scheme.specs.Scheme.{widths_of}
use Rattle.plan.specs.Map.{plan_of}
use Rattle.plan.specs.Levels.{room_at}
use lib.ListN.{length}
use Rattle.maps.proofs.Sums.{reaches, not_ours, sent, unsent, whole_address}
use Rattle.maps.proofs.Rules.{said_same, ram_same}
use Rattle.maps.proofs.Edges.{p11}

pub the_sum : TheSum
the_sum s m win root ram ok va = (reaches s m win root ram ok va, not_ours s m win root ram ok va)

pub every_access_is_sent : EveryAccessIsSent
every_access_is_sent s m win root ram ok q = (sent s m win root ram ok q, unsent s m win root ram ok q)

pub the_sum_is_the_address : TheSumIsTheAddress
the_sum_is_the_address s m win root ram ok e va small = whole_address s m win root ram ok e va small

pub rules_agree : RulesAgree
rules_agree s m win root ram a = (said_same s m win root ram a, ram_same s m win root ram a)

pub rules_differ : RulesDiffer
rules_differ ram e same =
    let words = p11 ram e in
    omega (arith, words.3, words.4, ap (λ xs. le_at 4 xs 61440) same)

pub count_is_written : CountIsWritten
count_is_written s m win root len = (counted s m win root len, count_refused s m win root len)

pub written_once : WrittenOnce
unfolding plan_of room_at
written_once s m win root ram ok =
    let p = plan_of s m win in
    record {
      distinct = tables_distinct p (widths_of s) 0 root (granted s m win root (length ram) ok).1;
      full = tables_full p (widths_of s) 0 root;
      no_more = tables_count p (widths_of s) 0 root;
    }

pub outside_kept : OutsideKept
outside_kept s m win root ram k o = byte_same s m win root ram k o

pub gaps_kept : GapsKept
gaps_kept s m win root ram ok =
    record { above = above_same s m win root ram ok; below = below_same s m win root ram ok; gaps = gaps_same s m win root ram ok }

pub bytes_stay : BytesStay
bytes_stay s m win root ram small = bytes_same s m win root ram small
