-- The input was driven to its end.
use Rattle.std.specs.Prelude.{ℕ, replicate}
use Rattle.std.specs.Duration.{as_nanos}
use Rattle.std.proofs.Common.{◌≡◌, ◌∙◌, [], false, ap, subst}
use Rattle.std.proofs.lemmas.Result.{IfOk-at_ok}
use Rattle.ctl_drive.specs.Asking.{PlanView, StopsOn}
use Rattle.ctl_drive.specs.Driving.{period_of}
use Rattle.ctl_drive.specs.Ending.{HasDriven}
use Rattle.ctl_drive.specs.Input.{LinesView}
use Rattle.ctl_drive.specs.Running.{plan_begun}
use Rattle.ctl_drive.specs.declared.driving.Ticks.{Ticks}
use Rattle.ctl_drive.proofs.Asks.{stops_if}
use Rattle.ctl_drive.proofs.Drives.{period_is}
use Rattle.ctl_drive.proofs.Ends.{known_err}
use Rattle.ctl_drive.proofs.running.drive_begun.Goals as goal

abbrev planned : LinesView → PlanView
planned l = record { input = l; count = 0; was_bad = false; waiting = replicate 62 []; stopping = false }

pub returns-clause-driven : goal.returns-clause-driven
returns-clause-driven g c =
    let begun : c.new-plan.result ≡ plan_begun (g.I.Read.remaining c.args.input) = c.new-plan.ensures ∙ ap planned c.new.ensures in
    let period : as_nanos c.new-ticks.result.period ≡ period_of (as_nanos c.args.settings.tick) =
    period_is (as_nanos c.args.settings.tick) _ (λ h. ap (λ (t : Ticks). as_nanos t.period) (c.new-ticks.ensures.given h)) c.new-ticks.ensures.none in
    let driven = IfOk-at_ok _ c.in_ok-last.ensures.made c.run_session-ran.ensures.driven in
    record {
      through = c.run_session-ran.new.plan;
      driven = subst (λ (x : ℕ × PlanView). HasDriven g.L.SerialLine.seen x.0 c.args.session c.args.users x.1 c.run_session-ran.new.plan (g.W.Write.contents c.args.output.now) (g.W.Write.contents c.run_session-ran.new.output) (g.E.Write.contents c.args.faults.now) (g.E.Write.contents c.run_session-ran.new.faults) c.in_ok-last.fault c.in_ok-last.left c.in_ok-last.last) (λ i. (period i, begun i)) driven;
      bad_is = c.was_bad-was_bad.ensures ∙ ap (λ (p : PlanView). p.was_bad) c.in_ok-last.ensures.kept;
    }

pub returns-in_err-last-clause-stops : goal.returns-in_err-last-clause-stops
returns-in_err-last-clause-stops g c =
    let begun : c.new-plan.result ≡ plan_begun (g.I.Read.remaining c.args.input) = c.new-plan.ensures ∙ ap planned c.new.ensures in
    stops_if _ _ _ _ _
    (subst (λ (p : PlanView). StopsOn p c.args.users.caller.submitted (g.E.Write.contents c.args.faults.now) (g.E.Write.contents c.run_session-ran.new.faults)) begun
    (known_err (StopsOn c.new-plan.result c.args.users.caller.submitted (g.E.Write.contents c.args.faults.now) (g.E.Write.contents c.run_session-ran.new.faults)) c.run_session-ran.result _ c.in_err-last.ensures.refused c.run_session-ran.ensures.stops))
