-- The packets of the front are written.
use Rattle.std.specs.Prelude.{length}
use Rattle.mux_capture.specs.Pieces.{behind_flags}
use Rattle.mux_capture.proofs.Showing.{DamageSoFar}
use Rattle.mux_capture.proofs.pieces.push_all_damage.Given as goal

abbrev pub invariant-loop-left : goal.invariant-loop-left
invariant-loop-left l = DamageSoFar l.stamp l.direction (behind_flags l.octets) l.left l.initial.out.items l.out.items

abbrev pub decreases-loop-left : goal.decreases-loop-left
decreases-loop-left l = length l.left
