use Rattle.std.proofs.Common.{List, sym, subst, ◌+◌}
use Rattle.modem_sim.specs.declared.own_answers.OwnAnswer.{OwnAnswer}
use Rattle.ctl_run.proofs.inputs.AnswerLines.{IsReadTo, read_from, read_said, read_skipped}
use Rattle.ctl_run.proofs.own_answers.read_answers.Goals as goal

pub loop-line-init : goal.loop-line-init
loop-line-init c = rw c.new-answers.ensures.items (read_from c.args.text.now)

pub loop-line-preserved-then-is_skipped : goal.loop-line-preserved-then-is_skipped
loop-line-preserved-then-is_skipped c =
    read_skipped c.args.text.now c.loop-line.left.now c.in-Some.line.now c.in-Some.rest.now c.loop-line.answers.items c.loop-line.place
    c.loop-line.invariant c.in-Some.ensures.cut c.in-Some.ensures.shorter (sym c.if-is_skipped.ensures)

pub loop-line-preserved : goal.loop-line-preserved
loop-line-preserved c =
    subst (λ (answers : List OwnAnswer). IsReadTo c.args.text.now c.in-Some.rest.now answers (c.loop-line.place + 1)) (sym c.in_ok-push-in-Ok.ensures.items)
    (read_said c.args.text.now c.loop-line.left.now c.in-Some.line.now c.in-Some.rest.now c.loop-line.answers.items c.in-Ok.answer c.loop-line.place
    c.loop-line.invariant c.in-Some.ensures.cut c.in-Some.ensures.shorter (sym c.if-is_skipped.ensures) c.in-Ok.ensures)
