use Rattle.ctl_run.proofs.inputs.Submissions.{submits_cut}
use Rattle.ctl_run.proofs.bench.submissions.submission_of.Goals as goal

pub returns-clause-says : goal.returns-clause-says
returns-clause-says c =
    submits_cut c.args.callers c.args.line.now c.first_word.result.0.now c.first_word.result.1.now _ c.first_word.ensures.word c.first_word.ensures.behind c.in_ok-caller.ensures c.in_ok-dlci.ensures.says
