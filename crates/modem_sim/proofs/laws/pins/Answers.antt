use Rattle.modem_sim.proofs.law_proofs.NetworkRuns.{follows_network}
use Rattle.modem_sim.proofs.law_proofs.PinRuns.{keeps_pin, ready_always}
use Rattle.modem_sim.proofs.laws.pins.Goals as goal

pub returns-clause-pin : goal.returns-clause-pin
returns-clause-pin c = keeps_pin

pub returns-clause-ready : goal.returns-clause-ready
returns-clause-ready c = ready_always

pub returns-clause-network : goal.returns-clause-network
returns-clause-network c = follows_network
