-- What is left is to be taken, and no line has entered the multiplexer.
use Rattle.std.specs.Prelude.{None, ◌≤◌, ◌++◌, length}
use Rattle.modem_sim.specs.declared.state.ModemState.{ModemState}
use Rattle.ctl_sim.specs.Standing.{EndsWith, Stands, StepsOn, setting_by, undecided, weight}
use Rattle.ctl_sim.proofs.server.take_each.Given as goal

abbrev pub invariant-loop-now : goal.invariant-loop-now
invariant-loop-now l = record {
  steps : (m : ModemState) → StepsOn Stands undecided (setting_by l.setup m) l.fn.mode l.now None l.octets l.rest.items l.initial.out.items l.out.items;
  ends : EndsWith (undecided l.fn.mode ++ l.octets) (undecided l.now ++ l.rest.items);
  fewer : weight l.now (length l.rest.items) ≤ weight l.fn.mode (length l.octets);
}

abbrev pub decreases-loop-now : goal.decreases-loop-now
decreases-loop-now l = weight l.now (length l.rest.items)
