use Rattle.std.proofs.Common.{◌≡◌}
use Rattle.test_player.proofs.desks.take_some.Given as goal

abbrev pub invariant-loop : goal.invariant-loop
invariant-loop g l = l.driver.desk ≡ l.initial.driver.desk
