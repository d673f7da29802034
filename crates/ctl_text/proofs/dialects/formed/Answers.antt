use Rattle.ctl_text.proofs.RuleLines.{no_form_alone, no_form_first}
use Rattle.ctl_text.proofs.dialects.formed.Goals as goal

pub returns-in_err-word : goal.returns-in_err-word
returns-in_err-word c = rw c.from_residual.ensures (no_form_alone c.args.words.now c.in_err-word.ensures)

pub returns-in_err-form : goal.returns-in_err-form
returns-in_err-form c =
    rw c.from_residual-in_err-form.ensures
    (no_form_first c.args.words.now c.in_ok-word.word.now c.in_ok-word.rest.now c.in_ok-word.ensures.0 c.in_ok-word.ensures.1 c.in_err-form.ensures)
