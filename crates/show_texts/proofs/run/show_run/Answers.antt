-- What is told of a capture that isn't shown to its end.
use Rattle.show_texts.proofs.Progressing.{not_good, tells_part}
use Rattle.show_texts.proofs.run.show_run.Goals as goal

pub returns-in-Err-clause-read : goal.returns-in-Err-clause-read
returns-in-Err-clause-read g c = tells_part _ _ _ _ _ _ c.begin.ensures.begins c.show-shown.ensures.part c.end.ensures.ends (not_good _ _ c.give_up.ensures.status)
