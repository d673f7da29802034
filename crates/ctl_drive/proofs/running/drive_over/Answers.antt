-- A drive, from its line to its end.
use Rattle.std.specs.Duration.{as_nanos}
use Rattle.ctl_drive.specs.Driving.{period_of}
use Rattle.ctl_drive.specs.Entry.{entry_for, given_text}
use Rattle.ctl_drive.proofs.Asks.{names_nothing}
use Rattle.ctl_drive.proofs.Begins.{drove_if}
use Rattle.ctl_drive.proofs.running.drive_over.Goals as goal

pub returns-clause-drove : goal.returns-clause-drove
returns-clause-drove g c =
    drove_if g.L.SerialLine.seen c.args.settings.dialect.now (entry_for (given_text c.args.settings.entry) c.args.settings.n1) c.args.settings.n1 (period_of (as_nanos c.args.settings.tick)) c.args.line c.enter.new.line (g.I.Read.remaining c.args.input) (g.W.Write.contents c.args.output.now) (g.W.Write.contents c.drive_entered.new.output)
    (g.E.Write.contents c.args.faults.now) (g.E.Write.contents c.drive_entered.new.faults) c.drive_entered.result c.in_ok-enter.ensures c.drive_entered.ensures.drove

pub returns-in_err-enter-clause-named : goal.returns-in_err-enter-clause-named
returns-in_err-enter-clause-named g c = names_nothing (g.I.Read.remaining c.args.input) (g.E.Write.contents c.args.faults.now)
