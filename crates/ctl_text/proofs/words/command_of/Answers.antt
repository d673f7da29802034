use Rattle.std.proofs.Common.{sym, ap, ◌∙◌}
use Rattle.at_text.specs.Commands.{refusal_of}
use Rattle.ctl_text.proofs.CommandWords.{is_command, taken_line}
use Rattle.ctl_text.proofs.words.command_of.Goals as goal

pub returns-clause-says : goal.returns-clause-says
returns-clause-says c =
    let carrier = c.in_ok-dlci.ensures in
    let taken = taken_line (refusal_of c.first_word.result.1.now) c.in_ok-line.line c.first_word.result.1.now _ (λ why e. cc) c.in_ok-line.ensures in
    is_command c.args.words.now c.in_ok-dlci.dlci.number c.in_ok-line.line (sym c.first_word.ensures.word ∙ carrier.1) (sym c.first_word.ensures.behind ∙ sym taken.1)
    carrier.0 c.in_ok-dlci.dlci.in_range (ap refusal_of taken.1 ∙ taken.0)
