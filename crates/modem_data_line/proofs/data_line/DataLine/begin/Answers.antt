use Rattle.modem_data_line.proofs.data_line.DataLine.begin.Goals as goal

pub returns-clause-unread : goal.returns-clause-unread
returns-clause-unread g c = rw (← c.self.view_is) c.begin.ensures.unread
