-- What of the octets is left is the command line of all.
use Rattle.std.proofs.Common.{◌≡◌, vec_len}
use Rattle.ctl_sim.specs.Plain.{from_at}
use Rattle.ctl_sim.proofs.plain.keep.Given as goal

abbrev pub invariant-loop-run : goal.invariant-loop-run
invariant-loop-run l = from_at l.run.items ≡ from_at l.initial.run.items

abbrev pub decreases-loop-run : goal.decreases-loop-run
decreases-loop-run l = vec_len l.run
