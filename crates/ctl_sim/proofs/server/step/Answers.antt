use Rattle.ctl_sim.specs.EndlessClients.{IsEndlessMode}
use Rattle.ctl_sim.specs.Leaving.{IsOfModemBy}
use Rattle.ctl_sim.proofs.EndlessClients.{endless_in}
use Rattle.ctl_sim.proofs.Leaving.{endless_so, given_so}
use Rattle.ctl_sim.proofs.server.step.Goals as goal

pub returns-in_err-next-in-Mux-clause-fault : goal.returns-in_err-next-in-Mux-clause-fault
returns-in_err-next-in-Mux-clause-fault c =
    given_so (IsOfModemBy (IsEndlessMode c.args.mode c.args.octets.now)) _ _ c.from_residual-in_err-next-in-Mux.ensures.1
    (endless_so _ (endless_in c.args.mode c.in-Mux.mux c.args.octets.now c.in-Mux.is) c.in_err-next-in-Mux.ensures.fault)
