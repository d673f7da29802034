use Rattle.std.proofs.Common.{inr, rules}
use Rattle.std.specs.String.{string_bytes}
use Rattle.ctl_run.specs.Bench.{IsNoSubmission}
use Rattle.ctl_run.specs.LineFaults.{SubmissionFault}
use Rattle.ctl_run.specs.Printed.{IsBenched}
use Rattle.ctl_run.specs.Stopping.{IsBenchStop}
use Rattle.ctl_run.specs.declared.stop.Stop.TheVariants as Stop
use Rattle.ctl_run.proofs.outputs.RunEnds.{refused_for}
use Rattle.ctl_run.proofs.outputs.StoppedRuns.{bench_cause, given_up, stopped_at_once, stopped_for}
use Rattle.ctl_run.proofs.bench.bench_run_explained.Goals as goal

pub returns-clause-refused : goal.returns-clause-refused
returns-clause-refused g c e =
    inr (refused_for c.benched-built.result c.finish.result (g.I.Read.remaining c.args.input.now) (IsNoSubmission c.args.callers) (SubmissionFault c.args.callers) c.finish.ensures.ended c.benched-built.ensures.bad_line c.benched-built.ensures.others e)

pub returns-then-not-takes_callers-clause-stopped :
    goal.returns-then-not-takes_callers-clause-stopped
returns-then-not-takes_callers-clause-stopped g c some =
    stopped_at_once c.args.explained Stop.BadCallers (IsBenched c.args.callers c.args.cut c.args.script) (IsBenchStop c.args.callers c.args.cut (g.I.Read.remaining c.args.input.now)) _ g.W.Write.contents c.args.output.now _ _ _
    c.give_up_explained.ensures.status c.give_up_explained.ensures.said (c.takes_callers.ensures.bad (search rules)) (λ e. cc)

pub returns-then-not-takes_cut-clause-stopped : goal.returns-then-not-takes_cut-clause-stopped
returns-then-not-takes_cut-clause-stopped g c some =
    stopped_at_once c.args.explained Stop.BadCut (IsBenched c.args.callers c.args.cut c.args.script) (IsBenchStop c.args.callers c.args.cut (g.I.Read.remaining c.args.input.now)) _ g.W.Write.contents c.args.output.now _ _ _
    c.give_up_explained-then-not-takes_cut.ensures.status c.give_up_explained-then-not-takes_cut.ensures.said (c.takes_cut.ensures.bad (search rules)) (λ e. cc)

pub returns-clause-stopped : goal.returns-clause-stopped
returns-clause-stopped g c some =
    stopped_for c.args.explained string_bytes c.benched-built.result (IsBenched c.args.callers c.args.cut c.args.script) (IsBenchStop c.args.callers c.args.cut (g.I.Read.remaining c.args.input.now)) _ g.W.Write.contents c.args.output.now _ _ _ c.finish.result
    c.finish.ensures.ended c.finish.ensures.nothing c.finish.ensures.part c.finish.ensures.said c.benched-built.ensures.ok
    (bench_cause c.benched-built.result c.args.callers c.args.cut (g.I.Read.remaining c.args.input.now) c.benched-built.ensures.bad_line c.benched-built.ensures.others)
    c.benched-built.ensures.no_output tt some

pub returns-clause-nothing : goal.returns-clause-nothing
returns-clause-nothing g c one =
    given_up c.args.explained _ _ _ g.W.Write.contents c.args.output.now _ _ _ c.finish.result (returns-clause-stopped g c (λ zero. cc))
