-- It was said of those so far.
use Rattle.std.specs.Prelude.{◌≤◌, ◌-◌, length}
use Rattle.ctl_sim.specs.DataEnds.{SaysUnsent}
use Rattle.ctl_sim.proofs.data_serving.say_each.Given as goal

abbrev pub invariant-loop-place : goal.invariant-loop-place
invariant-loop-place g l = record {
  few : l.place ≤ length l.unsent;
  says : SaysUnsent (g.E.Write.contents l.initial.faults) (g.E.Write.contents l.faults);
}

abbrev pub decreases-loop-place : goal.decreases-loop-place
decreases-loop-place g l = length l.unsent - l.place
