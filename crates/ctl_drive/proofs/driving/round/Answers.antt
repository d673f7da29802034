-- It ends as the poll says.
use Rattle.ctl_drive.proofs.Judges.{ended_if}
use Rattle.ctl_drive.proofs.driving.round.Goals as goal

pub returns-clause-ends : goal.returns-clause-ends
returns-clause-ends g c = ended_if c.poll-said.result _ c.answer.new.plan c.answer.result c.poll-said.ensures.ends c.answer.ensures.ends
