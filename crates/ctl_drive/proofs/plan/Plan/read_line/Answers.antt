-- A line is a command, or bad.
use Rattle.std.proofs.Common.{rules}
use Rattle.ctl_drive.specs.Plans.{is_stopping}
use Rattle.ctl_drive.proofs.Asks.{reads_bad, reads_command}
use Rattle.ctl_drive.proofs.plan.Plan.read_line.Goals as goal

pub returns-in_ok-push-in-Ok-clause-reads : goal.returns-in_ok-push-in-Ok-clause-reads
returns-in_ok-push-in-Ok-clause-reads g c =
    reads_command c.args.self.now
    (record { input = c.self.inside.input; count = c.self.inside.number; was_bad = c.self.inside.bad; waiting = c.self.inside.queues; stopping = is_stopping c.self.inside.phase })
    c.in-Some.number c.push.new.self c.args.line.now c.in-Ok.line c.in-Ok.dlci (g.E.Write.contents c.args.faults.now) c.self.view_is c.in-Some.ensures.1 c.in_ok-push-in-Ok.ensures c.in-Ok.ensures.says

pub returns-in-Err-Bad-clause-reads : goal.returns-in-Err-Bad-clause-reads
returns-in-Err-Bad-clause-reads g c =
    reads_bad c.args.self.now
    (record { input = c.self.inside.input; count = c.self.inside.number; was_bad = c.self.inside.bad; waiting = c.self.inside.queues; stopping = is_stopping c.self.inside.phase })
    c.in-Some.number c.args.line.now c.in-Err-Bad.fault (g.E.Write.contents c.args.faults.now) (g.E.Write.contents c.name_bad.new.faults) c.self.view_is c.in-Some.ensures.1
    (record { some = search rules; none = search rules; fault = search rules }) c.name_bad.ensures
