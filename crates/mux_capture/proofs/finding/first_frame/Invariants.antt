-- What stands before the octets left begins no frame.
use Rattle.std.specs.Prelude.{◌-◌, ◌≤◌, [], drop, length, take}
use Rattle.mux_frame.specs.Reading.{Reads}
use Rattle.mux_capture.specs.FrontFrames.{PassesOver}
use Rattle.mux_capture.proofs.finding.first_frame.Given as goal

abbrev pub invariant-loop-passed : goal.invariant-loop-passed
invariant-loop-passed l = record {
  within : l.passed ≤ length l.text;
  passes : PassesOver l.n1 l.text (drop l.passed l.text);
  bound : l.known ≤ length (drop l.passed l.text);
  known : Reads l.n1 (take l.known (drop l.passed l.text)) [] (take l.known (drop l.passed l.text));
}

abbrev pub decreases-loop-passed : goal.decreases-loop-passed
decreases-loop-passed l = length l.text - l.passed
