-- The driver's end stays.
use Rattle.std.proofs.Common.{◌≡◌}
use Rattle.modem_bench.proofs.ends.wake_callers.Given as goal

abbrev pub invariant-loop-number : goal.invariant-loop-number
invariant-loop-number l = l.driver ≡ l.fn.driver
