-- What stands behind the flags is the same.
use Rattle.std.specs.Prelude.{◌≡◌, length}
use Rattle.mux_capture.specs.Pieces.{behind_flags}
use Rattle.mux_capture.proofs.pieces.behind_flags.Given as goal

abbrev pub invariant-loop-left : goal.invariant-loop-left
invariant-loop-left l = behind_flags l.left ≡ behind_flags l.octets

abbrev pub decreases-loop-left : goal.decreases-loop-left
decreases-loop-left l = length l.left
