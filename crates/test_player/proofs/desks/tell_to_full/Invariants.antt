use Rattle.std.proofs.Common.{◌≡◌}
use Rattle.test_player.proofs.desks.tell_to_full.Given as goal

abbrev pub invariant-loop-number : goal.invariant-loop-number
invariant-loop-number l = l.driver.desk ≡ l.initial.driver.desk
