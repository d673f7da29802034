-- Those so far are named.
use Rattle.std.proofs.Common.{◌≡◌, ◌≤◌, ◌-◌, length, take}
use Rattle.modem_data.specs.PipeSets.{numbers}
use Rattle.modem_data_c.proofs.making.connections.Given as goal

abbrev pub invariant-loop-place : goal.invariant-loop-place
invariant-loop-place l = record {
  few : l.place ≤ length l.octets;
  those : numbers l.named.items ≡ take l.place l.octets;
}

abbrev pub decreases-loop-place : goal.decreases-loop-place
decreases-loop-place l = length l.octets - l.place
