-- It was said of those so far.
use Rattle.std.specs.Prelude.{◌≤◌, ◌-◌, length}
use Rattle.file_threads.specs.FileEnds.{SaysFull}
use Rattle.file_threads.proofs.full.say_full.Given as goal

abbrev pub invariant-loop-place : goal.invariant-loop-place
invariant-loop-place g l = record {
  few : l.place ≤ length l.threads;
  says : SaysFull l.all (g.E.Write.contents l.initial.faults) (g.E.Write.contents l.faults);
}

abbrev pub decreases-loop-place : goal.decreases-loop-place
decreases-loop-place g l = length l.threads - l.place
