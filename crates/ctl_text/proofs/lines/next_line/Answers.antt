use Rattle.ctl_text.proofs.CutTexts.{line_alone, line_left}
use Rattle.ctl_text.proofs.lines.next_line.Goals as goal

pub returns-in-Some-clause-cut : goal.returns-in-Some-clause-cut
returns-in-Some-clause-cut c = line_alone c.args.text.now c.in-Some.parts.0.now c.in-Some.parts.1.now c.in-Some.ensures.cut

pub returns-in-None-clause-cut : goal.returns-in-None-clause-cut
returns-in-None-clause-cut c = line_left c.args.text.now c.in-None.ensures.cut c.if-is_empty.ensures
