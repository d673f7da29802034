-- It was said of those so far.
use Rattle.std.specs.Prelude.{◌≤◌, ◌-◌, length, take}
use Rattle.file_threads.specs.FileEnds.{SaysEnds}
use Rattle.file_threads.proofs.saying.say_files.Given as goal

abbrev pub invariant-loop-place : goal.invariant-loop-place
invariant-loop-place g l = record {
  few : l.place ≤ length l.files;
  said : SaysEnds l.fn.line.line.relay.pipes (take l.place l.files) (g.E.Write.contents l.initial.faults) (g.E.Write.contents l.faults);
}

abbrev pub decreases-loop-place : goal.decreases-loop-place
decreases-loop-place g l = length l.files - l.place
