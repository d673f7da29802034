-- So many octets can become a frame.
use Rattle.std.specs.Prelude.{◌-◌, ◌<◌, ◌≤◌, [], length, take}
use Rattle.mux_frame.specs.Reading.{Reads}
use Rattle.mux_capture.proofs.finding.ahead.Given as goal

abbrev pub invariant-loop-low : goal.invariant-loop-low
invariant-loop-low l = record {
  within : l.known ≤ l.low;
  bound : l.low < length l.text;
  high : l.high ≤ length l.text;
  begins : Reads l.n1 (take l.low l.text) [] (take l.low l.text);
}

abbrev pub decreases-loop-low : goal.decreases-loop-low
decreases-loop-low l = l.high - l.low
