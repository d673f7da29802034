use Rattle.std.proofs.Common.{refl}
use Rattle.modem_data_line.proofs.Leads.{takes_waiting}
use Rattle.modem_data_line.proofs.data_line.DataLine.feed_relay.Goals as goal

-- src/moving.rt:109:5
pub returns-clause-goes : goal.returns-clause-goes
returns-clause-goes g c = rw (← c.self.view_is) (takes_waiting g.L.SerialLine.seen _ _ c.feed.ensures.feeds refl)
