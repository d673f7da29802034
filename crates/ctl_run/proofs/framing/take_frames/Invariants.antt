use Rattle.std.proofs.Common.{length}
use Rattle.std.specs.Prelude.{map}
use Rattle.mux_frame.specs.Frames.{kept_frame}
use Rattle.ctl_run.specs.Framing.{HandsAll}
use Rattle.ctl_run.proofs.framing.take_frames.Given as goal

abbrev pub invariant-loop-frame : goal.invariant-loop-frame
invariant-loop-frame l = HandsAll l.initial.deframer (map kept_frame l.initial.frames.items) l.deframer (map kept_frame l.frames.items)

abbrev pub decreases-loop-frame : goal.decreases-loop-frame
decreases-loop-frame l = length l.deframer.undecided
