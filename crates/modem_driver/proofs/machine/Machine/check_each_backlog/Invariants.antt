-- Those before it were checked.
use Rattle.modem_driver.proofs.sessions.steps.Backlogs.{ChecksSo}
use Rattle.modem_driver.proofs.machine.Machine.check_each_backlog.Given as goal

abbrev pub invariant-loop-number : goal.invariant-loop-number
invariant-loop-number l = ChecksSo l.fn.self l.self l.number l.moved
