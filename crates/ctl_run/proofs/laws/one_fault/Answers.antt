use Rattle.ctl_run.proofs.inputs.OneFault.{one_step}
use Rattle.ctl_run.proofs.laws.one_fault.Goals as goal

pub returns-clause-steps : goal.returns-clause-steps
returns-clause-steps c = one_step
