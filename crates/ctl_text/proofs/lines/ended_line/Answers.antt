use Rattle.std.specs.Prelude.{refl}
use Rattle.ctl_text.proofs.CutTexts.{line_goes_on}
use Rattle.ctl_text.proofs.lines.ended_line.Goals as goal

pub returns-clause-cut : goal.returns-clause-cut
returns-clause-cut c =
    line_goes_on c.args.text.now c.in_ok-line.line.now c.in_ok-line.rest.now c.strip_suffix.result c.in_ok-line.line c.unwrap_or.result
    c.in_ok-line.ensures refl c.strip_suffix.ensures.cases c.unwrap_or.ensures
