use Rattle.std.proofs.Common.{length, map}
use Rattle.mux_frame.specs.Frames.{kept_frame}
use Rattle.mux_frame.proofs.readings.ComputedReadings.{ReadsSoFar}
use Rattle.mux_frame.proofs.laws.read_plain.Given as goal

abbrev pub invariant-loop-text : goal.invariant-loop-text
invariant-loop-text l = ReadsSoFar l.n1 l.octets (map kept_frame l.frames.items) l.left

abbrev pub decreases-loop-text : goal.decreases-loop-text
decreases-loop-text l = length l.left
