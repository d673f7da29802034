-- There is one for each so far.
use Rattle.std.proofs.Common.{◌≡◌, ◌≤◌, ◌-◌, ℕ, [], length, take}
use Rattle.std.specs.Prelude.{All}
use Rattle.modem_data.specs.Pipes.{Pipe, PipeFits}
use Rattle.modem_data.specs.PipeSets.{connections, numbers}
use Rattle.modem_data.proofs.pipe_set.new_pipes.Given as goal

abbrev pub invariant-loop-place : goal.invariant-loop-place
invariant-loop-place l = record {
  few : l.place ≤ length l.named;
  those : connections l.each.items ≡ numbers (take l.place l.named);
  each : All (λ (p : Pipe). (n1 : ℕ) → PipeFits l.role n1 p.watch.dlci p []) l.each.items;
}

abbrev pub decreases-loop-place : goal.decreases-loop-place
decreases-loop-place l = length l.named - l.place
