-- The packets of the front are written.
use Rattle.std.specs.Prelude.{◌+◌, length, if◌then◌else◌}
use Rattle.mux_capture.specs.Pushing.{PushesFirst}
use Rattle.mux_capture.proofs.pieces.push_pieces.Given as goal

abbrev pub invariant-loop-more : goal.invariant-loop-more
invariant-loop-more l = PushesFirst l.n1 l.stamp l.direction l.text l.left l.more l.initial.out.items l.out.items

abbrev pub decreases-loop-more : goal.decreases-loop-more
decreases-loop-more l = length l.left + (if l.more then 1 else 0)
