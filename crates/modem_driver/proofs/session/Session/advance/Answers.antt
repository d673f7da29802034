-- The end that a poll gave.
use Rattle.std.proofs.Common.{◌∙◌, sym}
use Rattle.modem_driver.proofs.sessions.polls.Polls.{ended_says, given_is, gives_now, gives_some, goes_none, polls_again, polls_on}
use Rattle.modem_driver.proofs.sessions.steps.TakenRequests.{takes_none}
use Rattle.modem_driver.proofs.session.Session.advance.Goals as goal

pub returns-in-Some-clause-goes : goal.returns-in-Some-clause-goes
returns-in-Some-clause-goes g c = goes_none g.L.SerialLine.seen c.args.self.now

pub returns-in-Some-clause-gives : goal.returns-in-Some-clause-gives
returns-in-Some-clause-gives g c =
    let look = g.L.SerialLine.seen in
    let s = c.args.self.now in
    let end = c.in-Some.end in
    let kept = given_is s.machine.course end (sym c.end.ensures ∙ c.in-Some.is) in
    gives_now look s s end (polls_again look s end kept) (goes_none look s) (ended_says look s end kept)

pub returns-in-None-clause-gives : goal.returns-in-None-clause-gives
returns-in-None-clause-gives g c =
    let look = g.L.SerialLine.seen in
    let old = c.args.self.now in
    let new = c.run.new.self in
    gives_some look old new c.run.result (polls_on look old new c.run.result (sym c.end.ensures ∙ c.in-None.is) c.run.ensures.polls) c.run.ensures.goes c.run.ensures.says

pub returns-in-Some-clause-takes : goal.returns-in-Some-clause-takes
returns-in-Some-clause-takes g c = takes_none c.args.self.now.driver
