-- Those so far began again.
use Rattle.std.specs.Prelude.{◌≡◌, ◌≤◌, ◌-◌, length}
use Rattle.data_files.proofs.Again.{again_to}
use Rattle.data_files.proofs.filed_line.begin_again.Given as goal

abbrev pub invariant-loop-place : goal.invariant-loop-place
invariant-loop-place g l = record {
  few : l.place ≤ length l.initial.files.items;
  long : length l.files.items ≡ length l.initial.files.items;
  again_are : l.files.items ≡ again_to g.P.SerialLine.seen l.place l.initial.files.items;
}

abbrev pub decreases-loop-place : goal.decreases-loop-place
decreases-loop-place g l = length l.initial.files.items - l.place
