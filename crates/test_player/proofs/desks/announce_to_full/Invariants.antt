use Rattle.std.proofs.Common.{◌≡◌}
use Rattle.test_player.proofs.desks.announce_to_full.Given as goal

abbrev pub invariant-loop : goal.invariant-loop
invariant-loop l = l.driver.desk ≡ l.initial.driver.desk
