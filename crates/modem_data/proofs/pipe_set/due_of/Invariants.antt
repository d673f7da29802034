-- Nothing is to be said of those so far.
use Rattle.std.proofs.Common.{◌≤◌, ◌<◌, ◌-◌, ℕ, length, None, get_or}
use Rattle.modem_data.specs.Pipes.{Pipe, SaysFlow}
use Rattle.modem_data.proofs.pipe_set.due_of.Given as goal

abbrev pub invariant-loop-place : goal.invariant-loop-place
invariant-loop-place l = record {
  few : l.place ≤ length l.pipes;
  none : (j : ℕ) (p : Pipe) → j < l.place → SaysFlow (get_or l.pipes j p) None;
}

abbrev pub decreases-loop-place : goal.decreases-loop-place
decreases-loop-place l = length l.pipes - l.place
