use Rattle.std.proofs.Common.{length}
use Rattle.ctl_run.proofs.inputs.AnswerLines.{AreRead}
use Rattle.ctl_run.proofs.own_answers.lines_of.Given as goal

-- the lines so far are read
abbrev pub invariant-loop-text : goal.invariant-loop-text
invariant-loop-text l = AreRead l.behind l.lines.items l.left

abbrev pub decreases-loop-text : goal.decreases-loop-text
decreases-loop-text l = length l.left
