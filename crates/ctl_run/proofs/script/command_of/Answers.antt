use Rattle.std.specs.Prelude.{◌≡◌, ℕ, List, ◌++◌, codes, None}
use Rattle.std.proofs.Common.{sym, ap, ◌∙◌}
use Rattle.at_text.specs.Commands.{refusal_of}
use Rattle.ctl_text.specs.Words.{number_text}
use Rattle.ctl_text.proofs.CommandWords.{joined_words, some_line, taken_line}
use Rattle.ctl_run.proofs.script.command_of.Goals as goal

pub returns-clause-says : goal.returns-clause-says
returns-clause-says c =
    let taken = taken_line (refusal_of c.first_word.result.1.now) c.in_ok-line.line c.first_word.result.1.now _ (λ why e. cc) c.in_ok-line.ensures in
    let good : refusal_of c.in_ok-line.line ≡ None = ap refusal_of taken.1 ∙ taken.0 in (
      good,
      ap (λ (l : List ℕ). codes "cmd " ++ l)
          (joined_words c.args.words.now (number_text c.in_ok-dlci.dlci.number) c.in_ok-line.line (sym c.first_word.ensures.word ∙ c.in_ok-dlci.ensures)
          (sym c.first_word.ensures.behind ∙ sym taken.1) (some_line c.in_ok-line.line good)),
    )
