-- So far these events have come, in order.
use Rattle.std.specs.Prelude.{◌≡◌, None}
use Rattle.modem_history.specs.Calls.{replaying}
use Rattle.modem_core.specs.Running.{SoFar, CoreIsIdle, running_of}
use Rattle.modem_core.proofs.replaying.replay.Given as goal

abbrev pub invariant-loop-event : goal.invariant-loop-event
invariant-loop-event l = record {
  so_far : SoFar (replaying l.n1) l.events l.event-index (running_of l.running) l.deframer;
  idle : CoreIsIdle l.running.core;
  n1 : l.running.core.station.n1 ≡ l.deframer.n1;
  none : l.deframer.next ≡ None;
}
