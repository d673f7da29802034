-- What is printed, and then what is asked.
use Rattle.ctl_drive.proofs.Asks.{asks_none, stops_here, stops_if}
use Rattle.ctl_drive.proofs.Lines.{goes_then}
use Rattle.ctl_drive.proofs.driving.answer.Goals as goal

pub returns-in_err-shown-clause-stops : goal.returns-in_err-shown-clause-stops
returns-in_err-shown-clause-stops g c =
    stops_if _ _ _ _ _ (stops_here _ _ _ _ _ _ (asks_none c.args.plan.now c.args.users.now.caller.submitted (g.E.Write.contents c.args.faults.now)))

pub returns-clause-goes : goal.returns-clause-goes
returns-clause-goes g c = goes_then _ _ _ _ _ _ c.in_ok-shown.ensures.goes (c.in_ok-asked.ensures.goes _)

pub returns-then-matches-clause-ends : goal.returns-then-matches-clause-ends
returns-then-matches-clause-ends g c end e = c.judge.ensures.ends end e

pub returns-clause-ends : goal.returns-clause-ends
returns-clause-ends g c end e = c.judge-2.ensures.ends end e
