use Rattle.std.proofs.Common.{length}
use Rattle.frame_tests.proofs.reading.take_frames.Given as goal

abbrev pub decreases-loop-frame : goal.decreases-loop-frame
decreases-loop-frame l = length l.input.undecided
