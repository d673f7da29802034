-- Nothing is held, and few lines wait.
use Rattle.std.proofs.Common.{subst, arith}
use Rattle.std.specs.Prelude.{false, refl}
use Rattle.modem_core.specs.Holding.{CallsForNothing}
use Rattle.modem_queues.specs.LineQueues.{AreFewOnEach}
use Rattle.modem_driver.specs.SessionStates.{Machine}
use Rattle.modem_driver.proofs.sessions.steps.Backlogs.{checks_few, checks_all}
use Rattle.modem_driver.proofs.machine.Machine.is_quiet.Goals as goal

pub returns-then-holds_none-clause-checks : goal.returns-then-holds_none-clause-checks
returns-then-holds_none-clause-checks c = λ is.
    let k = c.args.self.now in
    let few : AreFewOnEach k.unannounced = subst (λ (x : Machine). AreFewOnEach x.unannounced) c.self.view_is (c.is_few.ensures is) in
    let free : CallsForNothing k.core = subst (λ (x : Machine). CallsForNothing x.core) c.self.view_is (c.holds_none.ensures c.if-holds_none.true) in
    checks_all k k 62 false refl (checks_few k 61 (omega arith) few free)
