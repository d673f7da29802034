use Rattle.std.proofs.Common.{refl}
use Rattle.modem_data_line.proofs.Leads.{hands_driver}
use Rattle.modem_data_line.proofs.data_line.DataLine.hand_on.Goals as goal

-- src/moving.rt:119:5
pub returns-clause-goes : goal.returns-clause-goes
returns-clause-goes g c = rw (← c.self.view_is) (hands_driver g.L.SerialLine.seen _ _ _ c.hand-count.ensures.hands c.push.ensures refl)
