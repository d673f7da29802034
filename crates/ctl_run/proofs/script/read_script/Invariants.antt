use Rattle.std.proofs.Common.{length}
use Rattle.ctl_run.proofs.inputs.Scripts.{AreEvents}
use Rattle.ctl_run.proofs.script.read_script.Given as goal

abbrev pub invariant-loop-line : goal.invariant-loop-line
invariant-loop-line l = AreEvents l.script l.left l.events.items l.asked l.place

abbrev pub decreases-loop-line : goal.decreases-loop-line
decreases-loop-line l = length l.left
