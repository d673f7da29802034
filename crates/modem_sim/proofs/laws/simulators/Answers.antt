use Rattle.modem_sim.proofs.sims.SimPasts.{is_over}
use Rattle.modem_sim.proofs.laws.simulators.Goals as goal

pub returns-clause-ends : goal.returns-clause-ends
returns-clause-ends c = is_over
