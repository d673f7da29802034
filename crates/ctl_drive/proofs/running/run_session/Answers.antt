-- The session goes on, and ends.
use Rattle.std.specs.Duration.{as_nanos}
use Rattle.std.specs.declared.time.Instant.{Instant}
use Rattle.std.proofs.Common.{Option, refl, sym, subst}
use Rattle.ctl_drive.specs.Driving.{DrivesOn}
use Rattle.ctl_drive.specs.Asking.{AsksOn, PlanView}
use Rattle.ctl_drive.specs.Ending.{HasEndedBy}
use Rattle.ctl_drive.proofs.Asks.{stops_either, stops_if}
use Rattle.ctl_drive.proofs.Ends.{has_driven, still_subscribed, still_whole}
use Rattle.ctl_drive.proofs.running.run_session.Goals as goal

pub end_drive-requires-clause-whole : goal.end_drive-requires-clause-whole
end_drive-requires-clause-whole g c =
    still_whole c.args.session.driver.desk c.drive_on-went.new.session.driver.desk c.args.users c.drive_on-went.new.users c.drive_on-went.ensures.drives.takes.desk c.in-Ok.ensures.goes.places c.requires.whole

pub end_drive-requires-clause-subscribed : goal.end_drive-requires-clause-subscribed
end_drive-requires-clause-subscribed g c =
    still_subscribed c.args.session.driver.desk c.drive_on-went.new.session.driver.desk c.args.users c.drive_on-went.new.users c.drive_on-went.ensures.drives.takes.desk c.in-Ok.ensures.goes.places c.requires.subscribed

pub returns-in_err-ended-in-Ok-clause-stops : goal.returns-in_err-ended-in-Ok-clause-stops
returns-in_err-ended-in-Ok-clause-stops g c =
    stops_if _ _ _ _ _
    (stops_either c.drive_on-went.result c.args.plan.now c.drive_on-went.new.plan c.args.users.caller.submitted c.drive_on-went.new.users.caller.submitted (g.E.Write.contents c.args.faults.now) (g.E.Write.contents c.drive_on-went.new.faults) c.drive_on-went.ensures.asks c.drive_on-went.ensures.stops)

pub returns-in_ok-ended-in-Ok-clause-driven : goal.returns-in_ok-ended-in-Ok-clause-driven
returns-in_ok-ended-in-Ok-clause-driven g c =
    let t = c.drive_on-went.new.session in
    let mid = c.drive_on-went.new.users in
    has_driven g.L.SerialLine.seen (as_nanos c.args.ticks.now.period) c.drive_on-went.new.ticks.last c.args.session t t c.args.users mid mid
    c.args.plan.now c.end_drive.new.plan (g.W.Write.contents c.args.output.now) (g.W.Write.contents c.drive_on-went.new.output)
    (g.W.Write.contents c.end_drive.new.output) (g.E.Write.contents c.args.faults.now) (g.E.Write.contents c.drive_on-went.new.faults) c.in-Ok.fault c.in_ok-ended-in-Ok.ended.1 c.in_ok-ended-in-Ok.ended.0
    (subst (λ (at : Option Instant). DrivesOn g.L.SerialLine.seen (as_nanos c.args.ticks.now.period) c.args.session at t c.drive_on-went.new.ticks.last) c.requires.unbegun c.drive_on-went.ensures.drives)
    c.in-Ok.ensures.goes
    (subst (λ (p : PlanView). AsksOn c.args.plan.now p c.args.users.caller.submitted mid.caller.submitted (g.E.Write.contents c.args.faults.now) (g.E.Write.contents c.drive_on-went.new.faults)) (sym c.end_drive.ensures.same) c.in-Ok.ensures.asks)
    (subst (λ (p : PlanView). HasEndedBy t.machine.course p c.in-Ok.fault) (sym c.end_drive.ensures.same) c.in-Ok.ensures.ends)
    refl refl c.in_ok-ended-in-Ok.ensures.ends c.in_ok-ended-in-Ok.ensures.line
