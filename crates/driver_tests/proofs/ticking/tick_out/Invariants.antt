use Rattle.std.proofs.Common.{◌≡◌}
use Rattle.driver_tests.proofs.ticking.tick_out.Given as goal

abbrev pub invariant-loop : goal.invariant-loop
invariant-loop g l = l.session.driver.desk ≡ l.initial.session.driver.desk
