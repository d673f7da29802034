use Rattle.std.proofs.Common.{length}
use Rattle.ctl_run.proofs.inputs.StepLines.{AreStepsRead}
use Rattle.ctl_run.proofs.steps.read_steps.Given as goal

abbrev pub invariant-loop-line : goal.invariant-loop-line
invariant-loop-line l = AreStepsRead l.script l.left l.steps.items l.place

abbrev pub decreases-loop-line : goal.decreases-loop-line
decreases-loop-line l = length l.left
