-- No final code has come yet.
use Rattle.modem_driver.specs.Entries.{IsUnderWay}
use Rattle.modem_driver.proofs.entering.enter.Given as goal

abbrev pub invariant-loop : goal.invariant-loop
invariant-loop g l =
    IsUnderWay l.counter
    (g.L.SerialLine.seen l.initial.line)
    (g.L.SerialLine.seen l.line)
    l.entry
