use Rattle.std.proofs.Common.{sym}
use Rattle.data_files.proofs.FileSteps.{asked_file}
use Rattle.data_files.proofs.data_file.DataFile.read_file.Goals as goal

pub returns-else-is_err-clause-asked : goal.returns-else-is_err-clause-asked
returns-else-is_err-clause-asked g c = rw (← c.self.view_is) (λ none more. asked_file g.P.SerialLine.seen c.self.inside.file c.read.new.line c.self.inside.has_ended c.read.new.self c.read.result (sym c.if-is_err.ensures.value)
    c.read.ensures.count c.read.ensures.came)
