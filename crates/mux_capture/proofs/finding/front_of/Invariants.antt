-- So many octets can become a frame.
use Rattle.std.specs.Prelude.{◌-◌, ◌≤◌, [], length, take}
use Rattle.mux_frame.specs.Reading.{Reads}
use Rattle.mux_capture.proofs.finding.front_of.Given as goal

abbrev pub invariant-loop-known : goal.invariant-loop-known
invariant-loop-known l = record {
  bound : l.known ≤ length l.text;
  begins : Reads l.n1 (take l.known l.text) [] (take l.known l.text);
}

abbrev pub decreases-loop-known : goal.decreases-loop-known
decreases-loop-known l = length l.text - l.known
