-- Those so far.
use Rattle.std.specs.Prelude.{◌≡◌, ◌≤◌, ◌-◌, length, take}
use Rattle.modem_data.specs.PipeSets.{numbers}
use Rattle.data_files.specs.Files.{dlcis}
use Rattle.ctl_sim.proofs.data_line.dlcis_of.Given as goal

abbrev pub invariant-loop-place : goal.invariant-loop-place
invariant-loop-place g l = record {
  few : l.place ≤ length l.files;
  named_are : numbers l.named.items ≡ dlcis (take l.place l.files);
}

abbrev pub decreases-loop-place : goal.decreases-loop-place
decreases-loop-place g l = length l.files - l.place
