-- Those so far.
use Rattle.std.specs.Prelude.{◌≡◌, ◌≤◌, ◌-◌, length, map, take}
use Rattle.ctl_drive.proofs.data_device.dlcis_in.Given as goal

abbrev pub invariant-loop-place : goal.invariant-loop-place
invariant-loop-place l = record {
  few : l.place ≤ length l.data_paths;
  named_are : l.named.items ≡ map (λ p. p.dlci) (take l.place l.data_paths);
}

abbrev pub decreases-loop-place : goal.decreases-loop-place
decreases-loop-place l = length l.data_paths - l.place
