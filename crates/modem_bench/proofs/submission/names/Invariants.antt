use Rattle.std.specs.Prelude.{◌≡◌, take, false}
use Rattle.modem_bench.specs.Asks.{is_named}
use Rattle.modem_bench.proofs.submission.names.Given as goal

abbrev pub invariant-loop-submission : goal.invariant-loop-submission
invariant-loop-submission l = is_named (take l.submission-index l.submissions) l.dlci.number ≡ false
