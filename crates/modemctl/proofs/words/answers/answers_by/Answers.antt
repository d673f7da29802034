use Rattle.modemctl.proofs.words.answers.answers_by.Goals as goal

pub returns-in-Err-clause-told : goal.returns-in-Err-clause-told
returns-in-Err-clause-told g c two = c.refuse_answers.ensures.told two (g.R.TextFiles.text_of c.args.rt.now) c.in-Err.ensures.refused
