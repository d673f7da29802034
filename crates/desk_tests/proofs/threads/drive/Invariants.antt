use Rattle.std.proofs.Common.{◌≡◌}
use Rattle.desk_tests.proofs.threads.drive.Given as goal

abbrev pub invariant-loop : goal.invariant-loop
invariant-loop g l = l.driver.desk ≡ l.initial.driver.desk
