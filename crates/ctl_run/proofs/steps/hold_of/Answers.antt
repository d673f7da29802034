use Rattle.std.specs.Prelude.{ℕ, List, ◌++◌, codes}
use Rattle.std.proofs.Common.{sym, ap, ◌∙◌}
use Rattle.ctl_text.specs.Words.{number_text}
use Rattle.ctl_text.proofs.CommandWords.{joined_words}
use Rattle.ctl_run.proofs.inputs.StepLines.{number_some}
use Rattle.ctl_run.proofs.steps.hold_of.Goals as goal

pub returns-clause-says : goal.returns-clause-says
returns-clause-says c =
    ap (λ (l : List ℕ). codes "hold " ++ l)
    (joined_words c.args.words.now (number_text c.in_ok-held.held.number) (number_text c.in_ok-awaited.awaited.number) (sym c.first_word.ensures.word ∙ c.in_ok-held.ensures)
    (sym c.first_word.ensures.behind ∙ c.in_ok-awaited.ensures.says) (number_some c.in_ok-awaited.awaited.number))
