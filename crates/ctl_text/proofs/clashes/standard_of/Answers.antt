use Rattle.at_text.specs.Rules.{FinalRule, UrcRule}
use Rattle.ctl_text.specs.DialectTexts.{other_lines}
use Rattle.ctl_text.proofs.CommonLines.{finds_in}
use Rattle.ctl_text.proofs.clashes.standard_of.Goals as goal

pub returns-in-Final : goal.returns-in-Final
returns-in-Final c =
    rw (c.in-Final.is, c.first_of.ensures)
    (finds_in (FinalRule c.in-Final.form c.in-Final.text.now) (other_lines (FinalRule c.in-Final.form c.in-Final.text.now)))

pub returns-in-Unsolicited : goal.returns-in-Unsolicited
returns-in-Unsolicited c =
    rw (c.in-Unsolicited.is, c.first_of-in-Unsolicited.ensures)
    (finds_in (UrcRule c.in-Unsolicited.form c.in-Unsolicited.text.now c.in-Unsolicited.name.now) (other_lines (UrcRule c.in-Unsolicited.form c.in-Unsolicited.text.now c.in-Unsolicited.name.now)))
