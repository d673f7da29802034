use Rattle.std.proofs.Common.{sym, ◌∙◌}
use Rattle.at_text.specs.Rules.{dialect_of}
use Rattle.at_text.proofs.windows.AnswerWindows.{sees}
use Rattle.at_text.proofs.window.Window.see_by.Goals as goal

pub returns-clause-past : goal.returns-clause-past
returns-clause-past c = λ past fits.
    sees (dialect_of c.args.dialect.now) c.args.self.now c.take_placed.new.self past c.args.line.now c.take_placed.result fits
    (c.take_placed.ensures.seen ∙ sym c.in_ok-placed.ensures.said) (c.take_placed.ensures.after ∙ sym c.in_ok-placed.ensures.left)
