use Rattle.std.proofs.Common.{inr, refl}
use Rattle.std.specs.String.{string_bytes}
use Rattle.ctl_run.specs.Script.{IsNoOrder}
use Rattle.ctl_run.specs.LineFaults.{EventFault}
use Rattle.ctl_run.specs.Printed.{IsReplayedBy}
use Rattle.ctl_run.specs.Stopping.{IsRunStop}
use Rattle.ctl_run.specs.declared.stop.Stop.TheVariants as Stop
use Rattle.ctl_run.proofs.outputs.RunEnds.{printed_for, refused_for}
use Rattle.ctl_run.proofs.outputs.StoppedRuns.{given_up, run_cause, stopped_at_once, stopped_for}
use Rattle.ctl_run.proofs.dialect_runs.replay_with_dialect_run_explained.Goals as goal

pub returns-clause-done : goal.returns-clause-done
returns-clause-done g c =
    printed_for string_bytes c.replayed_by-built.result c.finish.result (IsReplayedBy c.args.dialect.now c.args.n1) (g.R.Read.remaining c.args.input.now) _ _
    c.finish.ensures.ended c.finish.ensures.written (rw c.in-Some.ensures.octets at c.replayed_by-built.ensures.ok)

pub returns-clause-refused : goal.returns-clause-refused
returns-clause-refused g c e =
    inr (refused_for c.replayed_by-built.result c.finish.result (g.R.Read.remaining c.args.input.now) IsNoOrder EventFault c.finish.ensures.ended c.replayed_by-built.ensures.bad_line c.replayed_by-built.ensures.others e)

pub returns-in_default-clause-stopped : goal.returns-in_default-clause-stopped
returns-in_default-clause-stopped g c some =
    stopped_at_once c.args.explained Stop.BadN1 (IsReplayedBy c.args.dialect.now c.args.n1) (IsRunStop c.args.n1 IsNoOrder EventFault (g.R.Read.remaining c.args.input.now)) _ g.W.Write.contents c.args.output.now _ _ _
    c.give_up_explained.ensures.status c.give_up_explained.ensures.said (c.in_default.ensures.none.0 refl) (λ e. cc)

pub returns-clause-stopped : goal.returns-clause-stopped
returns-clause-stopped g c some =
    stopped_for c.args.explained string_bytes c.replayed_by-built.result (IsReplayedBy c.args.dialect.now c.args.n1) (IsRunStop c.args.n1 IsNoOrder EventFault (g.R.Read.remaining c.args.input.now)) _ g.W.Write.contents c.args.output.now _ _ _ c.finish.result
    c.finish.ensures.ended c.finish.ensures.nothing c.finish.ensures.part c.finish.ensures.said (rw c.in-Some.ensures.octets at c.replayed_by-built.ensures.ok)
    (run_cause c.replayed_by-built.result c.args.n1 IsNoOrder EventFault (g.R.Read.remaining c.args.input.now) c.replayed_by-built.ensures.bad_line c.replayed_by-built.ensures.others c.replayed_by-built.ensures.no_line)
    c.replayed_by-built.ensures.no_output tt some

pub returns-clause-nothing : goal.returns-clause-nothing
returns-clause-nothing g c one =
    given_up c.args.explained _ _ _ g.W.Write.contents c.args.output.now _ _ _ c.finish.result (returns-clause-stopped g c (λ zero. cc))
