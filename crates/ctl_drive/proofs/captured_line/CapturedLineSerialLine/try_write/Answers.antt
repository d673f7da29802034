-- What was written is captured.
use Rattle.std.proofs.Common.{ap}
use Rattle.serial_line.specs.LineViews.{LineView}
use Rattle.ctl_drive.proofs.Captured.{by_line, still_sent}
use Rattle.ctl_drive.proofs.captured_line.CapturedLineSerialLine.try_write.Goals as goal

pub invariant_of-self-2 : goal.invariant_of-self-2
invariant_of-self-2 g c =
    by_line _ (g.L.SerialLine.seen c.try_write.new.self).received _ (g.L.SerialLine.seen c.try_write.new.self).sent c.take.new.self (ap (λ (l : LineView). l.received) c.in_ok-count.ensures.ok) (ap (λ (l : LineView). l.sent) c.in_ok-count.ensures.ok)
    (still_sent (g.L.SerialLine.seen c.self.inside.line).received (g.L.SerialLine.seen c.self.inside.line).sent _ c.now-stamp.result c.self.inside.capture c.take.new.self
    (record { captures = c.take.ensures.captures; over = c.take.ensures.over }) c.self.invariant)
