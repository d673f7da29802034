use Rattle.std.specs.Prelude.{◌≡◌, Some, length}
use Rattle.ctl_run.specs.Dump.{joined, line_octets}
use Rattle.ctl_run.proofs.dump.push_pairs.Given as goal

abbrev pub invariant-loop-left : goal.invariant-loop-left
invariant-loop-left l = joined (Some l.octets.items) (line_octets l.left) ≡ joined (Some l.initial.octets.items) (line_octets l.line)

abbrev pub decreases-loop-left : goal.decreases-loop-left
decreases-loop-left l = length l.left
