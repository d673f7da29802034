use Rattle.data_files.proofs.Lifts.{line_goes}
use Rattle.data_files.proofs.filed_line.FiledLine.flush.Goals as goal

pub invariant_of-self : goal.invariant_of-self
invariant_of-self g c = line_goes g.L.SerialLine.seen g.P.SerialLine.seen (record { line = c.self.inside.line; files = c.self.inside.files.items; role = c.self.inside.role; n1 = c.self.inside.n1; before = c.self.inside.before }) c.flush.new.self _ c.flush.ensures.goes c.self.invariant
