use Rattle.std.proofs.Common.{◌≡◌, None}
use Rattle.frame_tests.proofs.ring.read_from_place.Given as goal

abbrev pub invariant-loop : goal.invariant-loop
invariant-loop l = l.input.next ≡ None
