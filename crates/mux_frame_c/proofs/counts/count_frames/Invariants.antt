use Rattle.std.proofs.Common.{length}
use Rattle.mux_frame_c.specs.Counting.{CountsOn}
use Rattle.mux_frame_c.proofs.counts.count_frames.Given as goal

abbrev pub invariant-loop-frame : goal.invariant-loop-frame
invariant-loop-frame l = CountsOn l.initial.deframer l.initial.counts l.deframer l.counts

abbrev pub decreases-loop-frame : goal.decreases-loop-frame
decreases-loop-frame l = length l.deframer.undecided
