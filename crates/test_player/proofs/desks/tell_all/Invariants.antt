use Rattle.std.proofs.Common.{◌≡◌}
use Rattle.test_player.proofs.desks.tell_all.Given as goal

abbrev pub invariant-loop-caller : goal.invariant-loop-caller
invariant-loop-caller l = l.driver.desk ≡ l.initial.driver.desk
