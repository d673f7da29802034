-- What the begin was refused with isn't a lane that is over and read.
use Rattle.std.specs.Prelude.{Err}
use Rattle.data_files.proofs.Renewing.{stays_over}
use Rattle.data_files.proofs.data_file.DataFile.renew.Goals as goal

pub returns-in-Err-clause-over : goal.returns-in-Err-clause-over
returns-in-Err-clause-over g c =
    rw (← c.self.view_is)
    (λ _. stays_over c.args.line.now.relay.pipes c.self.inside.dlci.number c.self.inside.renews (Err c.in-Err.field-0) c.in-Err.ensures.others c.in-Err.ensures.not_data c.in-Err.ensures.under_way c.in-Err.ensures.unread)
