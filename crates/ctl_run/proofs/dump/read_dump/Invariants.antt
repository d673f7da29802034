use Rattle.std.specs.Prelude.{length}
use Rattle.ctl_run.proofs.inputs.Dumps.{AreOctets}
use Rattle.ctl_run.proofs.dump.read_dump.Given as goal

abbrev pub invariant-loop-line : goal.invariant-loop-line
invariant-loop-line l = AreOctets l.dump l.left l.octets.items l.place

abbrev pub decreases-loop-line : goal.decreases-loop-line
decreases-loop-line l = length l.left
