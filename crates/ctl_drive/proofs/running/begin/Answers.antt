-- A session over a line, on the desk that was opened.
use Rattle.ctl_drive.proofs.Begins.{begins}
use Rattle.ctl_drive.proofs.running.begin.Goals as goal

pub returns-in-Ok : goal.returns-in-Ok
returns-in-Ok g c =
    let made = c.in_ok-driver.ensures in
    begins g.L.SerialLine.seen c.args.settings.now.dialect.now c.args.settings.now.n1 c.args.line c.in_ok-driver.driver c.in-Ok.session
    c.in_ok-driver.users c.in-Ok.ensures.begins c.in-Ok.ensures.same made.new made.whole made.subscribed made.shown made.none_asked made.order made.dialect
