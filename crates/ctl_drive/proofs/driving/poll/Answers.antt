-- A tick where one is due, and then a poll.
use Rattle.std.specs.Duration.{as_nanos}
use Rattle.ctl_drive.proofs.Drives.{drives_by, drives_if, drives_then}
use Rattle.ctl_drive.proofs.driving.poll.Goals as goal

pub returns-clause-drives : goal.returns-clause-drives
returns-clause-drives g c =
    let look = g.L.SerialLine.seen in
    let period = as_nanos c.args.ticks.now.period in
    drives_then look period _ _ _ _ _ _
    (drives_if look period c.are_due.result _ _ _ _ c.are_due.ensures.due c.are_due.ensures.not_due c.tick_if.ensures.due c.tick_if.ensures.none)
    (drives_by look period _ _ _ _ c.advance.ensures.takes c.advance.ensures.polls)
