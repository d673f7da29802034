use Rattle.ctl_run.specs.Steps.{IsNoStep}
use Rattle.ctl_run.specs.LineFaults.{StepFault}
use Rattle.ctl_run.proofs.inputs.ReadLines.{refused}
use Rattle.ctl_run.proofs.inputs.Scripts.{no_line, some_line}
use Rattle.ctl_run.proofs.inputs.StepLines.{all_steps, step_next, step_skipped}
use Rattle.ctl_run.proofs.steps.read_steps.Goals as goal

pub loop-line-preserved-then-is_empty : goal.loop-line-preserved-then-is_empty
loop-line-preserved-then-is_empty c =
    step_skipped c.args.script.now c.loop-line.left.now c.in-Some.line.now c.in-Some.rest.now c.loop-line.steps.items c.loop-line.place
    c.loop-line.invariant c.in-Some.ensures.cut c.in-Some.ensures.shorter (no_line c.in-Some.line.now c.if-is_empty.ensures)

pub loop-line-preserved : goal.loop-line-preserved
loop-line-preserved c =
    step_next c.args.script.now c.loop-line.left.now c.in-Some.line.now c.in-Some.rest.now c.loop-line.steps.items _ c.loop-line.place c.in-Ok.step
    c.loop-line.invariant c.in-Some.ensures.cut c.in-Some.ensures.shorter (some_line c.in-Some.line.now c.if-is_empty.ensures)
    c.in-Ok.ensures.says c.in_ok-push-in-Ok.ensures.items

pub returns-in-Err : goal.returns-in-Err
returns-in-Err c =
    rw c.at_line.ensures
    (refused IsNoStep StepFault c.args.script.now c.loop-line.left.now c.in-Some.line.now c.in-Some.rest.now c.loop-line.place c.in-Err.refusal
    c.loop-line.invariant.read c.in-Some.ensures.cut (λ bad. (some_line c.in-Some.line.now c.if-is_empty.ensures, c.in-Err.ensures.says bad)) c.in-Err.ensures.fault)

pub returns : goal.returns
returns c =
    rw c.from.ensures (all_steps c.args.script.now c.loop-line.left.now c.loop-line.steps.items c.loop-line.place c.loop-line.invariant
    c.in_default.ensures.cut)
