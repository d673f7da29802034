use Rattle.std.proofs.Common.{length}
use Rattle.mux_frame_c.proofs.FrameCounts.{AreCounted}
use Rattle.mux_frame_c.proofs.counts.count_octets.Given as goal

abbrev pub invariant-loop-left : goal.invariant-loop-left
invariant-loop-left l = AreCounted l.n1 l.octets l.left l.counts l.deframer

abbrev pub decreases-loop-left : goal.decreases-loop-left
decreases-loop-left l = length l.left
