-- A device was driven, with a capture where the settings name one.
use Rattle.std.specs.Prelude.{◌≡◌, Bool, None, IfOk}
use Rattle.std.proofs.Common.{subst}
use Rattle.std.specs.Duration.{as_nanos}
use Rattle.ctl_drive.specs.Driving.{period_of}
use Rattle.ctl_drive.specs.Entry.{entry_for, given_text}
use Rattle.ctl_drive.specs.OnDevice.{DroveDevice}
use Rattle.ctl_drive.proofs.Asks.{names_nothing}
use Rattle.ctl_drive.proofs.on_device.drive_path.Goals as goal

pub returns-clause-drove : goal.returns-clause-drove
returns-clause-drove g c =
    subst
    (λ (b : Bool). IfOk c.drive_threaded.result (λ d. d.fault ≡ None → DroveDevice b c.args.settings.dialect.now (entry_for (given_text c.args.settings.entry) c.args.settings.n1) c.args.settings.n1 (period_of (as_nanos c.args.settings.tick)) (g.W.Write.contents c.args.output.now) (g.W.Write.contents c.drive_threaded.new.output) (g.E.Write.contents c.args.faults.now) (g.E.Write.contents c.drive_threaded.new.faults) d.was_bad d.left))
    c.in_ok-reader.ensures.wanted c.drive_threaded.ensures.drove

pub returns-in_err-reader-clause-named : goal.returns-in_err-reader-clause-named
returns-in_err-reader-clause-named g c = names_nothing None (g.E.Write.contents c.args.faults.now)
