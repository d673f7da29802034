use Rattle.std.proofs.Common.{ap, ◌∙◌}
use Rattle.at_text.specs.declared.under_way.WindowMark.{WindowMark}
use Rattle.at_text.specs.InPlace.{back_at}
use Rattle.at_text.specs.UnderWay.{window_of}
use Rattle.at_text.proofs.windows.PlacedLines.{back_was}
use Rattle.at_text.proofs.windows.AnswersUnderWay.{same_answer}
use Rattle.at_text.proofs.under_way.UnderWay.go_back.Goals as goal

pub returns-clause-was : goal.returns-clause-was
returns-clause-was c = λ command was grows mark_is.
    let now = window_of command c.args.self.now in
    same_answer command c.shorten.new.self was
    (c.shorten.ensures command ∙ ap (λ (m : WindowMark). back_at m now) mark_is ∙ back_was (window_of command was) now grows)
