-- None so far is named before.
use Rattle.std.proofs.Common.{◌≡◌, ◌≤◌, ◌<◌, ◌-◌, ◌==◌, ℕ, length, false, get_or}
use Rattle.modem_data.specs.PipeSets.{numbers}
use Rattle.modem_data.proofs.pipe_set.are_apart.Given as goal

abbrev pub invariant-loop-place : goal.invariant-loop-place
invariant-loop-place l = record {
  few : l.place ≤ length l.named;
  none : (i j x : ℕ) → i < l.place → j < i → (get_or (numbers l.named) j x == get_or (numbers l.named) i x) ≡ false;
}

abbrev pub decreases-loop-place : goal.decreases-loop-place
decreases-loop-place l = length l.named - l.place
