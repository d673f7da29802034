use Rattle.std.specs.Prelude.{Some}
use Rattle.std.proofs.Common.{ap, List, ℕ, ◌∙◌}
use Rattle.at_text.specs.UnderWay.{unanswered, window_of}
use Rattle.at_text.proofs.windows.AnswerWindows.{begins}
use Rattle.at_text.proofs.window.Window.begin.Goals as goal

pub returns-clause-past : goal.returns-clause-past
returns-clause-past c = λ dialect past fits.
    begins dialect c.args.self.now _ past c.args.line.now fits c.requires
    (ap (window_of _) c.begin.ensures.opens ∙ ap (λ (text : List ℕ). window_of text (Some unanswered)) c.copy_text.ensures)
