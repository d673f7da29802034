use Rattle.std.proofs.Common.{◌+◌, refl}
use Rattle.ctl_run.specs.Script.{IsNoOrder}
use Rattle.ctl_run.specs.LineFaults.{EventFault}
use Rattle.ctl_run.proofs.inputs.ReadLines.{refused}
use Rattle.ctl_run.proofs.inputs.Scripts.{all_events, asked_next, heard_next, lost_next, no_line, skipped, some_line, ticked_next}
use Rattle.ctl_run.proofs.script.read_script.Goals as goal

pub loop-line-preserved-then-is_empty : goal.loop-line-preserved-then-is_empty
loop-line-preserved-then-is_empty c =
    skipped c.args.script.now c.loop-line.left.now c.in-Some.line.now c.in-Some.rest.now c.loop-line.events.items c.loop-line.asked c.loop-line.place
    c.loop-line.invariant c.in-Some.ensures.cut c.in-Some.ensures.shorter (no_line c.in-Some.line.now c.if-is_empty.ensures)

pub loop-line-preserved-in-Continue-1 : goal.loop-line-preserved-in-Continue-1
loop-line-preserved-in-Continue-1 c =
    heard_next c.args.script.now c.loop-line.left.now c.in-Some.line.now c.in-Some.rest.now c.loop-line.events.items _ c.loop-line.asked c.loop-line.place c.in-Ok-Octets.octets
    c.loop-line.invariant c.in-Some.ensures.cut c.in-Some.ensures.shorter (some_line c.in-Some.line.now c.if-is_empty.ensures)
    (rw c.in-Ok-Octets.field-0-is at c.in-Ok-Octets.ensures.says) c.in_ok-push-in-Ok-Octets.ensures.items

pub loop-line-preserved-in-Continue-branch-2 : goal.loop-line-preserved-in-Continue-branch-2
loop-line-preserved-in-Continue-branch-2 c =
    ticked_next c.args.script.now c.loop-line.left.now c.in-Some.line.now c.in-Some.rest.now c.loop-line.events.items _ c.loop-line.asked c.loop-line.place
    c.loop-line.invariant c.in-Some.ensures.cut c.in-Some.ensures.shorter (some_line c.in-Some.line.now c.if-is_empty.ensures)
    (rw c.in-Ok-Tick.field-0-is at c.in-Ok-Tick.ensures.says) c.in_ok-push-in-Ok-Tick.ensures.items

pub loop-line-preserved-in-Continue-branch-3 : goal.loop-line-preserved-in-Continue-branch-3
loop-line-preserved-in-Continue-branch-3 c =
    lost_next c.args.script.now c.loop-line.left.now c.in-Some.line.now c.in-Some.rest.now c.loop-line.events.items _ c.loop-line.asked c.loop-line.place
    c.loop-line.invariant c.in-Some.ensures.cut c.in-Some.ensures.shorter (some_line c.in-Some.line.now c.if-is_empty.ensures)
    (rw c.in-Ok-Lost.field-0-is at c.in-Ok-Lost.ensures.says) c.in_ok-push-in-Ok-Lost.ensures.items

pub loop-line-preserved : goal.loop-line-preserved
loop-line-preserved c =
    asked_next c.args.script.now c.loop-line.left.now c.in-Some.line.now c.in-Some.rest.now c.loop-line.events.items _ c.loop-line.asked c.loop-line.place
    (record { caller = 0; number = c.loop-line.asked + 1; ask = c.in-Ok-Ask.ask })
    c.loop-line.invariant c.in-Some.ensures.cut c.in-Some.ensures.shorter (some_line c.in-Some.line.now c.if-is_empty.ensures)
    (rw c.in-Ok-Ask.field-0-is at c.in-Ok-Ask.ensures.says) refl refl c.in_ok-push-in-Ok-Ask.ensures.items

pub returns-in-Err : goal.returns-in-Err
returns-in-Err c =
    rw c.at_line.ensures
    (refused IsNoOrder EventFault c.args.script.now c.loop-line.left.now c.in-Some.line.now c.in-Some.rest.now c.loop-line.place c.in-Err.refusal
    c.loop-line.invariant.read c.in-Some.ensures.cut (λ bad. (some_line c.in-Some.line.now c.if-is_empty.ensures, c.in-Err.ensures.says bad)) c.in-Err.ensures.fault)

pub returns : goal.returns
returns c =
    all_events c.args.script.now c.loop-line.left.now c.loop-line.events.items c.loop-line.asked c.loop-line.place c.loop-line.invariant
    c.in_default.ensures.cut
