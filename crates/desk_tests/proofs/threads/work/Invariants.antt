use Rattle.std.proofs.Common.{◌≡◌, ◌≤◌}
use Rattle.desk_tests.proofs.threads.work.Given as goal

abbrev pub invariant-loop : goal.invariant-loop
invariant-loop g l = (l.caller.place ≡ l.initial.caller.place) × (l.submitted ≤ l.job.asks)
