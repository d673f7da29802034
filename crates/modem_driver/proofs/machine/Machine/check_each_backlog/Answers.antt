-- One connection after the other is checked.
use Rattle.std.proofs.Common.{subst, arith, ℕ}
use Rattle.modem_driver.specs.BacklogChecks.{ChecksOne}
use Rattle.modem_driver.proofs.sessions.steps.Backlogs.{checks_first, checks_more, checks_all, same_number}
use Rattle.modem_driver.proofs.machine.Machine.check_each_backlog.Goals as goal

pub loop-number-init : goal.loop-number-init
loop-number-init c = checks_first c.args.self.now

pub loop-number-preserved : goal.loop-number-preserved
loop-number-preserved c =
    let n = c.loop-number.number in
    let same = same_number c.new.result c.unwrap.result n c.new.ensures.number c.unwrap.ensures in
    checks_more c.args.self.now c.loop-number.self c.check_backlog-moved.new.self n c.check_backlog-moved.result c.loop-number.moved
    (subst (λ (m : ℕ). ChecksOne m c.loop-number.self c.check_backlog-moved.new.self c.check_backlog-moved.result) same c.check_backlog-moved.ensures) c.loop-number.invariant

pub returns-clause-checks : goal.returns-clause-checks
returns-clause-checks c =
    let most = c.loop-number.auto.number-end in
    let over = c.loop-number-test.false in
    checks_all c.args.self.now c.loop-number.self c.loop-number.number c.loop-number.moved (omega arith) c.loop-number.invariant

pub returns-clause-stays : goal.returns-clause-stays
returns-clause-stays c = c.loop-number.invariant.stays
