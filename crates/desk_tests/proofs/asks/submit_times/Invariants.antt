use Rattle.std.proofs.Common.{◌≡◌}
use Rattle.desk_tests.proofs.asks.submit_times.Given as goal

abbrev pub invariant-loop-number : goal.invariant-loop-number
invariant-loop-number g l = l.caller.place ≡ l.initial.caller.place
