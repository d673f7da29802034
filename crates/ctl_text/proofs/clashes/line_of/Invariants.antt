use Rattle.std.specs.Prelude.{◌≤◌, ◌-◌}
use Rattle.ctl_text.specs.DialectTexts.{rule_in}
use Rattle.ctl_text.proofs.CommonLines.{AreRead}
use Rattle.ctl_text.proofs.clashes.line_of.Given as goal

abbrev pub invariant-loop-place : goal.invariant-loop-place
invariant-loop-place l = AreRead (rule_in l.rule) l.text l.left l.place × (l.place ≤ l.count)

abbrev pub decreases-loop-place : goal.decreases-loop-place
decreases-loop-place l = l.count - l.place
