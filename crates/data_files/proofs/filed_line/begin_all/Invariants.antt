-- The lanes of those so far began.
use Rattle.std.proofs.Common.{length, take, ◌-◌, ◌≤◌}
use Rattle.data_files.specs.Moves.{HasBegunTo}
use Rattle.data_files.proofs.filed_line.begin_all.Given as goal

abbrev pub invariant-loop-place : goal.invariant-loop-place
invariant-loop-place g l = record {
  few : l.place ≤ length l.files;
  begun : HasBegunTo g.L.SerialLine.seen (take l.place l.files) l.initial.line l.line;
}

abbrev pub decreases-loop-place : goal.decreases-loop-place
decreases-loop-place g l = length l.files - l.place
