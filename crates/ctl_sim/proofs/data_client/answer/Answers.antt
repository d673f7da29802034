use Rattle.modem_sim.specs.declared.state.ModemState.{ModemState}
use Rattle.ctl_sim.specs.EndlessClients.{ComesToEndless, IsEndlessMode}
use Rattle.ctl_sim.specs.Leaving.{IsOfModem}
use Rattle.ctl_sim.specs.Standing.{Stands, setting_by}
use Rattle.ctl_sim.proofs.Leaving.{given_so, of_modem}
use Rattle.ctl_sim.proofs.data_client.answer.Goals as goal

pub returns-in_err-next : goal.returns-in_err-next
returns-in_err-next c = record {
  fault =
      given_so IsOfModem _ _ c.from_residual.ensures.1
      (of_modem ((m : ModemState) → ComesToEndless Stands IsEndlessMode (setting_by c.args.setup.now m) c.in-Some.now c.args.octets.now) _ c.in_err-next.ensures.fault);
}
