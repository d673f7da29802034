-- What is given later was to be given before.
use Rattle.std.proofs.Common.{ap, sym, subst}
use Rattle.std.specs.Prelude.{Result}
use Rattle.futures.specs.Poll.{OnPending}
use Rattle.futures.specs.declared.task.Poll.{Poll}
use Rattle.modem_driver.specs.declared.session.ending.Ended.{Ended}
use Rattle.modem_driver.specs.declared.session.error.SessionFault.{SessionFault}
use Rattle.modem_driver.specs.Polls.{Gives, end_in}
use Rattle.modem_driver.proofs.sessions.polls.Polls.{gives_before}
use Rattle.modem_driver.proofs.session.polling.SessionFuture.poll.Goals as goal

pub returns-in-More-clause-same : goal.returns-in-More-clause-same
returns-in-More-clause-same g c =
    let look = g.L.SerialLine.seen in
    let old = c.args.self.now in
    let new = c.advance.new.self in
    let Before : Type 0 = (end : Result Ended SessionFault) → Gives look new end → Gives look old end in
    subst (λ (r : Poll (Result Ended SessionFault)). OnPending r Before) (sym c.yield_now.ensures.pending) (λ end h. gives_before look old new c.advance.result end c.advance.ensures.polls (ap end_in c.in-More.is) c.advance.ensures.goes h)

pub returns-in-Idle-clause-same : goal.returns-in-Idle-clause-same
returns-in-Idle-clause-same g c =
    let look = g.L.SerialLine.seen in
    let old = c.args.self.now in
    let new = c.advance.new.self in
    let Before : Type 0 = (end : Result Ended SessionFault) → Gives look new end → Gives look old end in
    subst (λ (r : Poll (Result Ended SessionFault)). OnPending r Before) (sym c.yield_now-in-Idle.ensures.pending) (λ end h. gives_before look old new c.advance.result end c.advance.ensures.polls (ap end_in c.in-Idle.is) c.advance.ensures.goes h)
