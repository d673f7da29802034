use Rattle.data_files.proofs.Lifts.{line_writes}
use Rattle.data_files.proofs.filed_line.FiledLine.write_line.Goals as goal

pub invariant_of-self : goal.invariant_of-self
invariant_of-self g c = line_writes g.L.SerialLine.seen g.P.SerialLine.seen (record { line = c.self.inside.line; files = c.self.inside.files.items; role = c.self.inside.role; n1 = c.self.inside.n1; before = c.self.inside.before }) c.try_write.new.self c.args.octets.now _ _ c.try_write.result _ c.try_write.ensures.takes c.try_write.ensures.call c.self.invariant
