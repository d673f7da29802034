use Rattle.std.proofs.Common.{◌≡◌, map}
use Rattle.modem_desk.specs.Ends.{place_of}
use Rattle.test_player.proofs.desks.submit_all.Given as goal

abbrev pub invariant-loop-place : goal.invariant-loop-place
invariant-loop-place g l = map place_of l.callers.items ≡ map place_of l.initial.callers.items
