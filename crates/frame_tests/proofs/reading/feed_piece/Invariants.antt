use Rattle.std.proofs.Common.{◌≡◌, None, length}
use Rattle.frame_tests.proofs.reading.feed_piece.Given as goal

abbrev pub invariant-loop-left : goal.invariant-loop-left
invariant-loop-left l = l.input.next ≡ None

abbrev pub decreases-loop-left : goal.decreases-loop-left
decreases-loop-left l = length l.left
