use Rattle.modem_data_line.proofs.Leads.{writes_first}
use Rattle.modem_data_line.proofs.data_line.DataLine.write_first.Goals as goal

pub returns-clause-goes : goal.returns-clause-goes
returns-clause-goes g c = rw (← c.self.view_is) (writes_first g.L.SerialLine.seen _ _ c.write_one.ensures.goes)
