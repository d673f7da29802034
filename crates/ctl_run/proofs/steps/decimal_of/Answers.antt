use Rattle.ctl_run.proofs.inputs.StepLines.{decimal_same, no_decimal, not_apart}
use Rattle.ctl_run.proofs.steps.decimal_of.Goals as goal

pub returns-in-Err : goal.returns-in-Err
returns-in-Err c = λ n few. no_decimal c.args.text.now n _ c.parse.result c.in-Err.is few c.parse.ensures.value.0

pub returns-else-eq : goal.returns-else-eq
returns-else-eq c = λ n few same.
    not_apart c.format.result.now c.args.text.now
    (decimal_same c.args.text.now c.format.result.now c.in-Ok.number n c.parse.result c.in-Ok.is few same c.parse.ensures.value.0 c.format.ensures.text) c.if-eq.ensures
