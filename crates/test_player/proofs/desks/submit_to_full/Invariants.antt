use Rattle.std.proofs.Common.{◌≡◌}
use Rattle.test_player.proofs.desks.submit_to_full.Given as goal

abbrev pub invariant-loop : goal.invariant-loop
invariant-loop g l = l.caller.place ≡ l.initial.caller.place
