use Rattle.std.proofs.Common.{◌≡◌, None}
use Rattle.frame_tests.proofs.reading.read_in_pieces.Given as goal

abbrev pub invariant-loop-piece : goal.invariant-loop-piece
invariant-loop-piece l = l.input.next ≡ None
