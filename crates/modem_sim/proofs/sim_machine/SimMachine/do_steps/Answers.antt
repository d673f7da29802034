use Rattle.std.proofs.Common.{ap, subst}
use Rattle.modem_sim.specs.Cores.{Core, HasPassed}
use Rattle.modem_sim.specs.Acts.{is_step_act}
use Rattle.modem_sim.specs.Sims.{SimMachine, SimMachineGoes}
use Rattle.modem_sim.proofs.sims.SimPasts.{machine_core}
use Rattle.modem_sim.proofs.sims.MachineParts.{machine_of}
use Rattle.modem_sim.proofs.sim_machine.SimMachine.do_steps.Goals as goal

pub returns-clause-goes : goal.returns-clause-goes
returns-clause-goes c =
    let old : SimMachine = machine_of c.self.inside.core c.self.inside.line_end c.self.inside.end in
    let Goes_to : SimMachine → Type 0 = λ k. SimMachineGoes is_step_act k (record old { core = c.do_steps.new.self }) in
    subst Goes_to c.self.view_is (machine_core is_step_act old c.do_steps.new.self c.do_steps.ensures.goes)

pub returns-clause-passed : goal.returns-clause-passed
returns-clause-passed c =
    let Passed : Core → Type 0 = λ o. HasPassed o c.do_steps.new.self in
    subst Passed (ap (λ (k : SimMachine). k.core) c.self.view_is) c.do_steps.ensures.passed
