use Rattle.std.proofs.Common.{take, map, ◌+◌}
use Rattle.modem_sim.specs.Steps.{line_of}
use Rattle.modem_sim.specs.StateTexts.{context_text}
use Rattle.modem_sim.proofs.modem_steps.AnswerLines.{more_contexts, pushed_line}
use Rattle.modem_sim.proofs.answers.push_contexts.Goals as goal

pub loop-context-preserved : goal.loop-context-preserved
loop-context-preserved c =
    let contexts = c.args.contexts.now in
    let i = c.loop-context.context-index in
    pushed_line c.args.answer.now.items c.loop-context.answer.items c.push_line.new.answer.items
    (map line_of (map context_text (take i contexts))) (map line_of (map context_text (take (i + 1) contexts)))
    c.in_ok-context_line.field-0.items (context_text c.context-item.result)
    c.in_ok-push_line.ensures c.loop-context.invariant c.in_ok-context_line.ensures
    (more_contexts contexts i c.context-item.result c.loop-context-test.true c.context-item.is)
