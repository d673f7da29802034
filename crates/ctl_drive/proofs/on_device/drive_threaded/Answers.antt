-- A line between two rings was driven.
use Rattle.std.proofs.Common.{None, is_some, ap}
use Rattle.serial_line.specs.StreamLine.{StreamState}
use Rattle.std.specs.Duration.{as_nanos}
use Rattle.ctl_drive.specs.Driving.{period_of}
use Rattle.ctl_drive.specs.Entry.{entry_for, given_text}
use Rattle.ctl_drive.proofs.Asks.{names_nothing}
use Rattle.ctl_drive.proofs.OnDevice.{drove_device}
use Rattle.ctl_drive.proofs.on_device.drive_threaded.Goals as goal

pub drive_by-requires-clause-fresh : goal.drive_by-requires-clause-fresh
drive_by-requires-clause-fresh g c = (ap (λ (l : StreamState). l.received) c.in_ok-line.ensures, ap (λ (l : StreamState). l.sent) c.in_ok-line.ensures)

pub returns-clause-drove : goal.returns-clause-drove
returns-clause-drove g c =
    drove_device (is_some c.args.capture) c.args.settings.dialect.now (entry_for (given_text c.args.settings.entry) c.args.settings.n1) c.args.settings.n1 (period_of (as_nanos c.args.settings.tick)) c.in_ok-line.field-0.line (g.W.Write.contents c.args.output.now) (g.W.Write.contents c.drive_by.new.output) (g.E.Write.contents c.args.faults.now) (g.E.Write.contents c.drive_by.new.faults) c.drive_by.result
    c.in_ok-line.ensures c.drive_by.ensures.drove

pub returns-in_err-bell-clause-named : goal.returns-in_err-bell-clause-named
returns-in_err-bell-clause-named g c = names_nothing None (g.E.Write.contents c.args.faults.now)

pub returns-in_err-line-clause-named : goal.returns-in_err-line-clause-named
returns-in_err-line-clause-named g c = names_nothing None (g.E.Write.contents c.args.faults.now)
