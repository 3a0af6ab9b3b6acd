-- A proof of each statement in specs/Claims.antt.
use Rattle.order.specs.Claims.{AnyOrder, StartIsEmpty, EndBytes, CallsFit, NoneButTen, TalliesAddUp}
use Rattle.mmu.proofs.Refusing.{neither_39}
use Rattle.order.proofs.Fit.{run_granted_lem, run_refused, run_fit, mode_known_lem}
use Rattle.order.proofs.Order as order
use Rattle.order.proofs.Calls as calls
use Rattle.order.proofs.EndBytes as bytes
use Rattle.order.proofs.Tallies as tallies

pub any_order : AnyOrder
any_order = order.any_order

pub start_is_empty : StartIsEmpty
start_is_empty = order.start_is_empty

pub end_bytes : EndBytes
end_bytes = bytes.end_bytes

pub calls_fit : CallsFit
calls_fit = calls.calls_fit

pub none_but_ten : NoneButTen
none_but_ten es m ram fit = record {
  none = λ g. run_granted_lem es m ram fit (mode_known_lem m.scheme m.satp.raw g);
  ten = λ e a b. run_refused es m ram fit (neither_39 m.scheme m.satp.raw e a b);
  fit = run_fit es m ram fit;
}

pub tallies_add_up : TalliesAddUp
tallies_add_up = tallies.add_up
