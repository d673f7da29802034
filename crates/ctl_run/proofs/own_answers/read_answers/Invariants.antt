use Rattle.std.proofs.Common.{length}
use Rattle.ctl_run.proofs.inputs.AnswerLines.{IsReadTo}
use Rattle.ctl_run.proofs.own_answers.read_answers.Given as goal

-- the lines so far say the answers so far
abbrev pub invariant-loop-line : goal.invariant-loop-line
invariant-loop-line l = IsReadTo l.text l.left l.answers.items l.place

abbrev pub decreases-loop-line : goal.decreases-loop-line
decreases-loop-line l = length l.left
