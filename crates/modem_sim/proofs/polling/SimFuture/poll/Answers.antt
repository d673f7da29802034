-- What is given later was to be given before.
use Rattle.std.proofs.Common.{sym, subst}
use Rattle.std.specs.Prelude.{Result}
use Rattle.futures.specs.Poll.{OnPending}
use Rattle.futures.specs.declared.task.Poll.{Poll}
use Rattle.modem_sim.specs.declared.error.SimError.{SimError}
use Rattle.modem_sim.specs.declared.sim.SimTurn.{SimTurn}
use Rattle.modem_sim.specs.Polls.{Gives}
use Rattle.modem_sim.proofs.sims.PollSteps.{gives_before, gives_now}
use Rattle.modem_sim.proofs.polling.SimFuture.poll.Goals as goal

pub returns-in-Some-clause-value : goal.returns-in-Some-clause-value
returns-in-Some-clause-value g c = gives_now g.L.SerialLine.seen c.args.self.now c.advance.new.self c.in-Some.end c.in-Some.ensures.polls

pub returns-in-None-clause-same : goal.returns-in-None-clause-same
returns-in-None-clause-same g c =
    let old = c.args.self.now in
    let new = c.advance.new.self in
    let Before : Type 0 = (given : Result SimTurn SimError) → Gives g.L.SerialLine.seen new given → Gives g.L.SerialLine.seen old given in
    subst (λ (r : Poll (Result SimTurn SimError)). OnPending r Before) (sym c.yield_now.ensures.pending)
    (λ given gives. gives_before g.L.SerialLine.seen old new given c.in-None.ensures.polls gives)
