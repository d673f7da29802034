use Rattle.ctl_run.specs.Bench.{IsNoSubmission}
use Rattle.ctl_run.specs.LineFaults.{SubmissionFault}
use Rattle.ctl_run.proofs.inputs.ReadLines.{refused}
use Rattle.ctl_run.proofs.inputs.Scripts.{no_line, some_line}
use Rattle.ctl_run.proofs.inputs.Submissions.{all_submitted, passed_over, submitted_next}
use Rattle.ctl_run.proofs.bench.submissions.read_submissions.Goals as goal

pub loop-line-preserved-then-is_empty : goal.loop-line-preserved-then-is_empty
loop-line-preserved-then-is_empty c =
    passed_over c.args.callers c.args.input.now c.loop-line.left.now c.in-Some.line.now c.in-Some.rest.now c.loop-line.all.items c.loop-line.place
    c.loop-line.invariant c.in-Some.ensures.cut c.in-Some.ensures.shorter (no_line c.in-Some.line.now c.if-is_empty.ensures)

pub loop-line-preserved : goal.loop-line-preserved
loop-line-preserved c =
    submitted_next c.args.callers c.args.input.now c.loop-line.left.now c.in-Some.line.now c.in-Some.rest.now c.loop-line.all.items _ c.loop-line.place c.in-Ok.submission
    c.loop-line.invariant c.in-Some.ensures.cut c.in-Some.ensures.shorter (some_line c.in-Some.line.now c.if-is_empty.ensures)
    c.in-Ok.ensures.says c.in_ok-push-in-Ok.ensures.items

pub returns-in-Err : goal.returns-in-Err
returns-in-Err c =
    rw c.at_line.ensures
    (refused (IsNoSubmission c.args.callers) (SubmissionFault c.args.callers) c.args.input.now c.loop-line.left.now c.in-Some.line.now c.in-Some.rest.now c.loop-line.place c.in-Err.refusal
    c.loop-line.invariant.read c.in-Some.ensures.cut (λ bad. (some_line c.in-Some.line.now c.if-is_empty.ensures, c.in-Err.ensures.says bad)) c.in-Err.ensures.fault)

pub returns : goal.returns
returns c =
    all_submitted c.args.callers c.args.input.now c.loop-line.left.now c.loop-line.all.items c.loop-line.place c.loop-line.invariant
    c.in_default.ensures.cut
