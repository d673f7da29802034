use Rattle.std.proofs.Common.{length}
use Rattle.ctl_run.proofs.inputs.Submissions.{ReadSubmissions}
use Rattle.ctl_run.proofs.bench.submissions.read_submissions.Given as goal

abbrev pub invariant-loop-line : goal.invariant-loop-line
invariant-loop-line l = ReadSubmissions l.callers l.input l.left l.all.items l.place

abbrev pub decreases-loop-line : goal.decreases-loop-line
decreases-loop-line l = length l.left
