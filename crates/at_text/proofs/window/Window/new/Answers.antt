use Rattle.std.proofs.Common.{ap}
use Rattle.at_text.specs.UnderWay.{window_of}
use Rattle.at_text.proofs.windows.AnswerWindows.{fits_nothing}
use Rattle.at_text.proofs.window.Window.new.Goals as goal

pub returns-clause-past : goal.returns-clause-past
returns-clause-past c = λ dialect. fits_nothing dialect _ (ap (window_of _) c.new-2.ensures.none)
