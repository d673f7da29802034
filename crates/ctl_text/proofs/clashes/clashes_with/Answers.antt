use Rattle.ctl_text.specs.DialectTexts.{rule_in}
use Rattle.ctl_text.specs.declared.dialects.RuleText.TheVariants.{Final}
use Rattle.ctl_text.proofs.CommonLines.{apart_by}
use Rattle.ctl_text.proofs.clashes.clashes_with.Goals as goal

pub returns-in-Unsolicited-other-clause-no : goal.returns-in-Unsolicited-other-clause-no
returns-in-Unsolicited-other-clause-no c =
    rw c.in-Final.is (λ short none.
    apart_by (rule_in (Final c.in-Final.form c.in-Final.text)) (rule_in c.in-Ok.other) c.args.line.now c.in-Ok.ensures
    (rw c.in-Unsolicited-other.is (λ sorts small. c.have_line_in_common.ensures.no short small none)))
