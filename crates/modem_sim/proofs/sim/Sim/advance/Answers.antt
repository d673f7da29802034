-- The end that is kept, or the one to which the turns lead.
use Rattle.std.proofs.Common.{◌∙◌, sym}
use Rattle.modem_sim.proofs.sims.PollSteps.{goes_given, polls_again, polls_on}
use Rattle.modem_sim.proofs.sim.Sim.advance.Goals as goal

pub returns-in-Some-clause-polls : goal.returns-in-Some-clause-polls
returns-in-Some-clause-polls g c = polls_again g.L.SerialLine.seen c.args.self.now c.in-Some.end (sym c.in-Some.is ∙ c.end.ensures)

pub returns-clause-polls : goal.returns-clause-polls
returns-clause-polls g c =
    polls_on g.L.SerialLine.seen c.args.self.now c.turns-given.new.self c.keep.new.self c.turns-given.result (sym c.in_default.is ∙ c.end.ensures) c.turns-given.ensures.runs c.keep.ensures

pub returns-clause-goes : goal.returns-clause-goes
returns-clause-goes g c =
    goes_given g.L.SerialLine.seen c.args.self.now c.turns-given.new.self c.keep.new.self c.turns-given.result c.turns-given.ensures.goes c.keep.ensures
