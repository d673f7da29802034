use Rattle.modem_sim.proofs.modem_steps.AnswerLines.{three_lines}
use Rattle.modem_sim.proofs.wording.push_context_forms.Goals as goal

pub returns : goal.returns
returns c =
    three_lines c.args.answer.now.items c.push_text.new.answer.items c.push_text-2.new.answer.items c.push_text-3.new.answer.items _ _ _
    c.in_ok-push_text.ensures c.in_ok-push_text-2.ensures c.in_ok-push_text-3.ensures
