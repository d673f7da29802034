use Rattle.modem_sim.proofs.replies.AnswerEnds.{reached_answers_well}
use Rattle.modem_sim.proofs.laws.answers.Goals as goal

pub returns : goal.returns
returns c = reached_answers_well
