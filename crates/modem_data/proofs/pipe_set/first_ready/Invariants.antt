-- None so far may send.
use Rattle.std.proofs.Common.{◌≤◌, ◌-◌}
use Rattle.modem_data.specs.PipeSets.{NonesIn}
use Rattle.modem_data.proofs.pipe_set.first_ready.Given as goal

abbrev pub invariant-loop-place : goal.invariant-loop-place
invariant-loop-place l = record {
  later : l.from ≤ l.place;
  few : l.place ≤ l.to;
  none : NonesIn l.pipes l.from l.place;
}

abbrev pub decreases-loop-place : goal.decreases-loop-place
decreases-loop-place l = l.to - l.place
