use Rattle.data_files.proofs.FileSteps.{gives_or}
use Rattle.data_files.proofs.Growing.{unread_or}
use Rattle.data_files.proofs.data_file.DataFile.give.Goals as goal

pub returns-clause-moves : goal.returns-clause-moves
returns-clause-moves g c = rw (← c.self.view_is) (gives_or g.L.SerialLine.seen g.P.SerialLine.seen c.args.line.now c.give.new.line _ c.give.new.octets c.give.result c.give.ensures.gave c.give.ensures.err c.give.ensures.beside)

pub returns-clause-unread : goal.returns-clause-unread
returns-clause-unread g c = rw (← c.self.view_is) (unread_or g.L.SerialLine.seen c.args.line.now c.give.new.line c.self.inside.dlci.number _ c.give.new.octets c.give.result c.give.ensures.gave c.give.ensures.err c.give.ensures.beside)
