-- A beginning of the octets has come.
use Rattle.std.specs.Prelude.{◌≡◌}
use Rattle.std.proofs.Common.{length}
use Rattle.modem_core.specs.Running.{running_of, CoreIsIdle}
use Rattle.modem_core.proofs.replays.ArrivalOrder.{HeardSo}
use Rattle.modem_core.proofs.replaying.hear.Given as goal

abbrev pub invariant-loop-left : goal.invariant-loop-left
invariant-loop-left l = record {
  come : HeardSo l.octets l.left l.initial.deframer l.deframer (running_of l.initial.running) (running_of l.running);
  idle : CoreIsIdle l.running.core;
  n1 : l.running.core.station.n1 ≡ l.deframer.n1;
}

abbrev pub decreases-loop-left : goal.decreases-loop-left
decreases-loop-left l = length l.left
