use Rattle.std.proofs.Common.{◌≡◌}
use Rattle.desk_tests.proofs.asks.take_requests.Given as goal

abbrev pub invariant-loop-caller : goal.invariant-loop-caller
invariant-loop-caller g l = l.driver.desk ≡ l.initial.driver.desk
