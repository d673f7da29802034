use Rattle.std.proofs.Common.{◌≡◌}
use Rattle.test_player.proofs.desks.announce_all.Given as goal

abbrev pub invariant-loop-kind : goal.invariant-loop-kind
invariant-loop-kind l = l.driver.desk ≡ l.initial.driver.desk
