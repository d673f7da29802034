-- So far these frames have gone out, whatever the history; what may still go out grows less.
use Rattle.std.specs.Prelude.{◌≡◌, map}
use Rattle.modem_history.specs.Acts.{act_of}
use Rattle.modem_core.specs.CoreGoing.{left_to_go}
use Rattle.modem_core.specs.Running.{SendsSome}
use Rattle.modem_core.proofs.replaying.send_all.Given as goal

abbrev pub invariant-loop-outgoing : goal.invariant-loop-outgoing
invariant-loop-outgoing l = record {
  sends : SendsSome l.initial.core l.core (map act_of l.initial.acts.items) (map act_of l.acts.items);
  n1 : l.core.station.n1 ≡ l.initial.core.station.n1;
}

abbrev pub decreases-loop-outgoing : goal.decreases-loop-outgoing
decreases-loop-outgoing l = left_to_go l.core
