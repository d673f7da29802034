use Rattle.std.proofs.Common.{ap, ◌∙◌}
use Rattle.at_text.specs.declared.under_way.WindowMark.{WindowMark}
use Rattle.at_text.specs.InPlace.{back_at}
use Rattle.at_text.proofs.windows.PlacedLines.{back_was}
use Rattle.at_text.proofs.window.Window.go_back.Goals as goal

pub returns-clause-was : goal.returns-clause-was
returns-clause-was c = λ was grows mark_is.
    c.go_back.ensures.back _ ∙ ap (back_at c.args.mark) c.self.view_is ∙ ap (λ (m : WindowMark). back_at m c.args.self.now) mark_is ∙ back_was was c.args.self.now grows
