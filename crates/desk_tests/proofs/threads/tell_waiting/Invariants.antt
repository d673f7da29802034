use Rattle.std.proofs.Common.{◌≡◌, ◌<◌, length}
use Rattle.desk_tests.proofs.threads.tell_waiting.Given as goal

abbrev pub invariant-loop : goal.invariant-loop
invariant-loop g l = (l.driver.desk ≡ l.initial.driver.desk) × (l.outcome.caller < length l.driver.desk.rings)
