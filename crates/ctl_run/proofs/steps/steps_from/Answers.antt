use Rattle.ctl_run.proofs.inputs.StepLines.{not_read, steps_by}
use Rattle.ctl_run.proofs.steps.steps_from.Goals as goal

pub returns-in-Ok : goal.returns-in-Ok
returns-in-Ok g c =
    steps_by (g.R.Read.remaining c.args.input.now) c.in-Ok.script.items c.as_slice.result.now c.read_steps.result c.in-Ok.ensures.whole c.as_slice.ensures.value c.read_steps.ensures

pub returns-in-Err : goal.returns-in-Err
returns-in-Err g c = not_read (g.R.Read.remaining c.args.input.now) c.in-Err.stop c.in-Err.ensures.err
