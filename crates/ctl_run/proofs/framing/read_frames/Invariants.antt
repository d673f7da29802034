use Rattle.std.proofs.Common.{length}
use Rattle.std.specs.Prelude.{map}
use Rattle.mux_frame.specs.Frames.{kept_frame}
use Rattle.ctl_run.specs.Framing.{AreTaken}
use Rattle.ctl_run.proofs.framing.read_frames.Given as goal

abbrev pub invariant-loop-left : goal.invariant-loop-left
invariant-loop-left l = AreTaken l.fn.n1.octets l.octets l.left (map kept_frame l.frames.items) l.deframer

abbrev pub decreases-loop-left : goal.decreases-loop-left
decreases-loop-left l = length l.left
