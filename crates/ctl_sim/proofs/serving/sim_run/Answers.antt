use Rattle.ctl_sim.specs.Standing.{setting_by}
use Rattle.ctl_sim.proofs.Ending.{ends_by}
use Rattle.ctl_sim.proofs.serving.sim_run.Goals as goal

pub returns-in-Ok-clause-said : goal.returns-in-Ok-clause-said
returns-in-Ok-clause-said g c one =
    ends_by c.args.options (setting_by c.in-Ok.setup c.in-Ok.modem) c.serve_client-served.result _ _ _ _ _ _ _ _ c.in-Ok.ensures.1
    c.serve_client-served.ensures.fault c.serve_client-served.ensures.left c.end.ensures.well c.end.ensures.said one
