-- A tick of what is kept.
use Rattle.modem_driver.proofs.sessions.steps.StartAndTick.{session_ticks}
use Rattle.modem_driver.proofs.session.Session.tick.Goals as goal

pub returns-clause-ticks : goal.returns-clause-ticks
returns-clause-ticks g c =
    session_ticks g.L.SerialLine.seen c.self.inside.line c.self.inside.driver c.args.self.now c.self.inside.machine c.tick.new.self c.self.view_is c.in_ok-tick.ensures.ticks
