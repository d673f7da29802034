use Rattle.ctl_run.proofs.inputs.StepLines.{no_text}
use Rattle.ctl_run.proofs.steps.number_of.Goals as goal

pub returns-in-Err : goal.returns-in-Err
returns-in-Err c = λ n few. no_text c.args.word.now n c.in-Err.ensures.cases.0 few
