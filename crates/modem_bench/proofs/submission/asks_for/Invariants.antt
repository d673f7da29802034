use Rattle.std.specs.Prelude.{◌≡◌, take}
use Rattle.modem_bench.specs.Asks.{asks_for}
use Rattle.modem_bench.proofs.submission.asks_for.Given as goal

abbrev pub invariant-loop-submission : goal.invariant-loop-submission
invariant-loop-submission l = l.asks.items ≡ asks_for l.caller (take l.submission-index l.submissions)
