use Rattle.ctl_text.proofs.RuleLines.{no_name}
use Rattle.ctl_text.proofs.dialects.unsolicited_text.Goals as goal

pub returns-in-None : goal.returns-in-None
returns-in-None c = no_name c.args.words.now c.in-Some.form c.in-Some.rest.now c.in-Some.ensures c.in-None.ensures
