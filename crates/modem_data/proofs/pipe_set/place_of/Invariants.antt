-- None so far is of the connection.
use Rattle.std.proofs.Common.{◌≡◌, ◌≤◌, ◌<◌, ◌-◌, ◌==◌, ℕ, length, false, get_or}
use Rattle.modem_data.specs.PipeSets.{connections}
use Rattle.modem_data.proofs.pipe_set.place_of.Given as goal

abbrev pub invariant-loop-place : goal.invariant-loop-place
invariant-loop-place l = record {
  few : l.place ≤ length l.pipes;
  none : (j : ℕ) (x : ℕ) → j < l.place → (get_or (connections l.pipes) j x == l.dlci.number) ≡ false;
}

abbrev pub decreases-loop-place : goal.decreases-loop-place
decreases-loop-place l = length l.pipes - l.place
