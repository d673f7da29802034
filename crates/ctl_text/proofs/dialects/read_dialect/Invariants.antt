use Rattle.std.proofs.Common.{length}
use Rattle.ctl_text.proofs.DialectLines.{IsMade}
use Rattle.ctl_text.proofs.dialects.read_dialect.Given as goal

abbrev pub invariant-loop-line : goal.invariant-loop-line
invariant-loop-line l = IsMade l.text l.left l.place l.dialect

abbrev pub decreases-loop-line : goal.decreases-loop-line
decreases-loop-line l = length l.left
