use Rattle.ctl_run.proofs.inputs.AnswerLines.{answers_by}
use Rattle.ctl_run.proofs.own_answers.answers_from.Goals as goal

pub returns-in-Ok : goal.returns-in-Ok
returns-in-Ok g c =
    answers_by (g.R.Read.remaining c.args.input.now) c.in-Ok.text.items c.as_slice.result.now c.read_answers.result c.in-Ok.ensures.whole c.as_slice.ensures.value c.read_answers.ensures
