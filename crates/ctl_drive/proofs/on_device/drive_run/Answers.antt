-- A device was driven, and the status says so.
use Rattle.std.specs.Prelude.{is_some, refl}
use Rattle.std.specs.Duration.{as_nanos}
use Rattle.ctl_drive.specs.Driving.{period_of}
use Rattle.ctl_drive.specs.Entry.{entry_for, given_text}
use Rattle.ctl_drive.proofs.OnDevice.{by_capture, ran_badly, ran_well}
use Rattle.ctl_drive.proofs.on_device.drive_run.Goals as goal

pub returns-clause-drove : goal.returns-clause-drove
returns-clause-drove g c other =
    ran_well _ _ (is_some (given_text c.args.settings.capture)) c.args.settings.dialect.now (entry_for (given_text c.args.settings.entry) c.args.settings.n1) c.args.settings.n1 (period_of (as_nanos c.args.settings.tick)) (g.W.Write.contents c.args.output.now) (g.W.Write.contents c.drive_path-ended.new.output)
    (g.E.Write.contents c.args.faults.now) (g.E.Write.contents c.drive_path-ended.new.faults) (g.E.Write.contents c.say_end.new.faults) c.drive_path-ended.result c.say_end.result
    c.drive_path-ended.ensures.drove c.say_end.ensures.said c.say_end.ensures.status other

pub returns-clause-fault : goal.returns-clause-fault
returns-clause-fault g c one =
    by_capture c.args.path.now c.args.settings.capture _ c.unwrap_or.result (g.E.Write.contents c.args.faults.now) (g.E.Write.contents c.say_end.new.faults) c.unwrap_or.ensures refl
    (ran_badly c.args.path.now c.unwrap_or.result.now (g.E.Write.contents c.args.faults.now) (g.E.Write.contents c.drive_path-ended.new.faults) (g.E.Write.contents c.say_end.new.faults) c.drive_path-ended.result c.say_end.result
    c.drive_path-ended.ensures.named c.say_end.ensures.said c.say_end.ensures.status one)
