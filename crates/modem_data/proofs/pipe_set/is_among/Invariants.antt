-- None so far is the connection.
use Rattle.std.proofs.Common.{◌≡◌, ◌≤◌, ◌<◌, ◌-◌, ◌==◌, ℕ, false, get_or}
use Rattle.modem_data.specs.PipeSets.{numbers}
use Rattle.modem_data.proofs.pipe_set.is_among.Given as goal

abbrev pub invariant-loop-place : goal.invariant-loop-place
invariant-loop-place l = record {
  few : l.place ≤ l.count;
  none : (j x : ℕ) → j < l.place → (get_or (numbers l.named) j x == l.number) ≡ false;
}

abbrev pub decreases-loop-place : goal.decreases-loop-place
decreases-loop-place l = l.count - l.place
