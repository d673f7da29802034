use Rattle.std.proofs.Common.{ap, sym, ◌∙◌, List, length}
use Rattle.at_text.specs.declared.answer.AnswerLine.{AnswerLine}
use Rattle.at_text.proofs.AnswerTexts.{count_ended}
use Rattle.at_text.proofs.answer_lines.AnswerLines.len.Goals as goal

pub returns : goal.returns
returns c =
    c.len.ensures.value
    ∙ (sym (count_ended 0 c.self.inside.ends.items c.self.inside.octets.items) ∙ ap (λ (lines : List AnswerLine). length lines) c.self.view_is)
