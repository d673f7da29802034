-- A drive, from a line that was entered to its end.
use Rattle.std.specs.Duration.{as_nanos}
use Rattle.ctl_drive.specs.Driving.{period_of}
use Rattle.ctl_drive.proofs.Asks.{names_nothing}
use Rattle.ctl_drive.proofs.Begins.{from_if, named_if}
use Rattle.ctl_drive.proofs.running.drive_entered.Goals as goal

pub returns-clause-drove : goal.returns-clause-drove
returns-clause-drove g c =
    from_if g.L.SerialLine.seen c.args.settings.dialect.now c.args.settings.n1 (period_of (as_nanos c.args.settings.tick)) c.args.line c.in_ok-session.session c.in_ok-session.users (g.I.Read.remaining c.args.input) (g.W.Write.contents c.args.output.now) (g.W.Write.contents c.drive_begun.new.output)
    (g.E.Write.contents c.args.faults.now) (g.E.Write.contents c.drive_begun.new.faults) c.drive_begun.result c.in_ok-session.ensures c.drive_begun.ensures.driven

pub returns-clause-named : goal.returns-clause-named
returns-clause-named g c =
    named_if g.L.SerialLine.seen c.args.settings.dialect.now c.args.settings.n1 (period_of (as_nanos c.args.settings.tick)) c.args.line c.in_ok-session.users (g.I.Read.remaining c.args.input) (g.W.Write.contents c.args.output.now) (g.W.Write.contents c.drive_begun.new.output)
    (g.E.Write.contents c.args.faults.now) (g.E.Write.contents c.drive_begun.new.faults) c.drive_begun.result (returns-clause-drove g c) c.in_ok-session.ensures.none_asked c.drive_begun.ensures.stops

pub returns-in_err-session-clause-named : goal.returns-in_err-session-clause-named
returns-in_err-session-clause-named g c = names_nothing (g.I.Read.remaining c.args.input) (g.E.Write.contents c.args.faults.now)
