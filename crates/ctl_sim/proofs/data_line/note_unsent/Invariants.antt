-- Those so far were noted.
use Rattle.std.specs.Prelude.{◌≤◌, ◌-◌, length}
use Rattle.ctl_sim.proofs.data_line.note_unsent.Given as goal

abbrev pub invariant-loop-place : goal.invariant-loop-place
invariant-loop-place g l = l.place ≤ length l.files

abbrev pub decreases-loop-place : goal.decreases-loop-place
decreases-loop-place g l = length l.files - l.place
