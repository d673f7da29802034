use Rattle.std.proofs.Common.{List, sym, subst}
use Rattle.modem_sim.specs.declared.own_answers.OwnLine.{OwnLine}
use Rattle.ctl_run.specs.AnswerTexts.{AreLines}
use Rattle.ctl_run.proofs.inputs.AnswerLines.{AreRead, all_lines, first_nowhere, first_there, last_nowhere, last_there, no_next, none_last, read_line}
use Rattle.ctl_run.proofs.inputs.Scripts.{some_line}
use Rattle.ctl_run.proofs.own_answers.lines_of.Goals as goal

pub returns-in_default-2 : goal.returns-in_default-2
returns-in_default-2 c =
    no_next c.args.behind.now c.loop-text.left.now c.in-Some.text.now c.in-Some.rest.now c.loop-text.lines.items
    (some_line c.args.behind.now c.if-is_empty.ensures) c.loop-text.invariant c.in-Some.ensures.0 c.in-Some.ensures.1
    (first_nowhere c.in-Some.text.now c.in_ok-line.field-0 c.in_ok-line.ensures c.in_default-2.is)

pub loop-text-preserved : goal.loop-text-preserved
loop-text-preserved c =
    subst (λ (lines : List OwnLine). AreRead c.args.behind.now lines c.in-Some.rest.now) (sym c.in_ok-push.ensures.items)
    (read_line c.args.behind.now c.loop-text.left.now c.in-Some.text.now c.in-Some.rest.now c.loop-text.lines.items c.in-Some-2.line
    c.loop-text.invariant c.in-Some.ensures.0 c.in-Some.ensures.1
    (first_there c.in-Some.text.now c.in_ok-line.field-0 c.in-Some-2.line c.in_ok-line.ensures c.in-Some-2.is))

pub returns-in_default-3 : goal.returns-in_default-3
returns-in_default-3 c =
    none_last c.args.behind.now c.loop-text.left.now c.loop-text.lines.items (some_line c.args.behind.now c.if-is_empty.ensures)
    c.loop-text.invariant c.in_default.ensures (last_nowhere c.loop-text.left.now c.in_ok-line-2.field-0 c.in_ok-line-2.ensures c.in_default-3.is)

pub returns : goal.returns
returns c =
    subst (λ (lines : List OwnLine). AreLines c.args.behind.now lines) (sym c.in_ok-push-2.ensures.items)
    (all_lines c.args.behind.now c.loop-text.left.now c.loop-text.lines.items c.in-Some-3.line c.loop-text.invariant c.in_default.ensures
    (last_there c.loop-text.left.now c.in_ok-line-2.field-0 c.in-Some-3.line c.in_ok-line-2.ensures c.in-Some-3.is))
