-- The frames so far have come.
use Rattle.std.specs.Prelude.{◌≡◌, []}
use Rattle.std.proofs.Common.{length}
use Rattle.modem_core.specs.Running.{running_of, Hears, CoreIsIdle}
use Rattle.modem_core.proofs.replaying.handle_frames.Given as goal

abbrev pub invariant-loop-frame : goal.invariant-loop-frame
invariant-loop-frame l = record {
  come : Hears [] l.initial.deframer l.deframer (running_of l.initial.running) (running_of l.running);
  idle : CoreIsIdle l.running.core;
  n1 : l.running.core.station.n1 ≡ l.deframer.n1;
}

abbrev pub decreases-loop-frame : goal.decreases-loop-frame
decreases-loop-frame l = length l.deframer.undecided
