-- The connections before it are counted.
use Rattle.modem_driver.proofs.sessions.steps.WaitedTicks.{CountedSo}
use Rattle.modem_driver.proofs.machine.delays.counted.Given as goal

abbrev pub invariant-loop-number : goal.invariant-loop-number
invariant-loop-number l = CountedSo l.delays l.counted l.hand l.number
