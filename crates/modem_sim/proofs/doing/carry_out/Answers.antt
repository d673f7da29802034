use Rattle.std.proofs.Common.{ap, ◌∙◌, sym}
use Rattle.mux_station.specs.Acts.{Called, Flow, Close, Stop}
use Rattle.modem_sim.specs.Doing.{call_of}
use Rattle.modem_sim.proofs.ends.ScriptSteps.{asked_for, n1_stays, refused_so}
use Rattle.modem_sim.proofs.doing.carry_out.Goals as goal

pub returns-in-Flow-clause-station : goal.returns-in-Flow-clause-station
returns-in-Flow-clause-station c = λ took.
    asked_for c.args.station.now c.flow.new.self c.args.act.now (Flow c.in-Flow.dlci.number c.in-Flow.go) c.flow.result (ap call_of c.in-Flow.is) c.flow.ensures.refusal c.flow.ensures.past (sym c.is_ok.ensures.value ∙ took)

pub returns-in-Disconnect-clause-station : goal.returns-in-Disconnect-clause-station
returns-in-Disconnect-clause-station c = λ took.
    asked_for c.args.station.now c.close.new.self c.args.act.now (Close c.in-Disconnect.dlci.number) c.close.result (ap call_of c.in-Disconnect.is) c.close.ensures.refusal c.close.ensures.past (sym c.is_ok-in-Disconnect.ensures.value ∙ took)

pub returns-in-CloseDown-clause-station : goal.returns-in-CloseDown-clause-station
returns-in-CloseDown-clause-station c = λ took.
    asked_for c.args.station.now c.stop.new.self c.args.act.now Stop c.stop.result (ap call_of c.in-CloseDown.is) c.stop.ensures.refusal c.stop.ensures.past (sym c.is_ok-in-CloseDown.ensures.value ∙ took)

pub returns-in-Flow-clause-refused : goal.returns-in-Flow-clause-refused
returns-in-Flow-clause-refused c = λ none.
    refused_so c.args.station.now c.args.act.now (Flow c.in-Flow.dlci.number c.in-Flow.go) c.flow.result (ap call_of c.in-Flow.is) c.flow.ensures.refusal (sym c.is_ok.ensures.value ∙ none)

pub returns-in-Disconnect-clause-refused : goal.returns-in-Disconnect-clause-refused
returns-in-Disconnect-clause-refused c = λ none.
    refused_so c.args.station.now c.args.act.now (Close c.in-Disconnect.dlci.number) c.close.result (ap call_of c.in-Disconnect.is) c.close.ensures.refusal (sym c.is_ok-in-Disconnect.ensures.value ∙ none)

pub returns-in-CloseDown-clause-refused : goal.returns-in-CloseDown-clause-refused
returns-in-CloseDown-clause-refused c = λ none.
    refused_so c.args.station.now c.args.act.now Stop c.stop.result (ap call_of c.in-CloseDown.is) c.stop.ensures.refusal (sym c.is_ok-in-CloseDown.ensures.value ∙ none)

pub returns-in-Flow-clause-n1 : goal.returns-in-Flow-clause-n1
returns-in-Flow-clause-n1 c = n1_stays c.args.station.now c.flow.new.self (Called (Flow c.in-Flow.dlci.number c.in-Flow.go)) c.flow.result c.flow.ensures.past c.flow.ensures.err

pub returns-in-Disconnect-clause-n1 : goal.returns-in-Disconnect-clause-n1
returns-in-Disconnect-clause-n1 c = n1_stays c.args.station.now c.close.new.self (Called (Close c.in-Disconnect.dlci.number)) c.close.result c.close.ensures.past c.close.ensures.err

pub returns-in-CloseDown-clause-n1 : goal.returns-in-CloseDown-clause-n1
returns-in-CloseDown-clause-n1 c = n1_stays c.args.station.now c.stop.new.self (Called Stop) c.stop.result c.stop.ensures.past c.stop.ensures.err
