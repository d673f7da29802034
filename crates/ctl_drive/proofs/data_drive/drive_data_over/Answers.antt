-- Where it doesn't begin, nothing was read.
use Rattle.ctl_drive.proofs.Asks.{names_nothing}
use Rattle.ctl_drive.proofs.data_drive.drive_data_over.Goals as goal

pub returns-in_err-relay-clause-names : goal.returns-in_err-relay-clause-names
returns-in_err-relay-clause-names g c = names_nothing (g.I.Read.remaining c.args.input) (g.E.Write.contents c.args.faults.now)

pub returns-in_err-enter-clause-names : goal.returns-in_err-enter-clause-names
returns-in_err-enter-clause-names g c = names_nothing (g.I.Read.remaining c.args.input) (g.E.Write.contents c.args.faults.now)

pub returns-in_err-line-clause-names : goal.returns-in_err-line-clause-names
returns-in_err-line-clause-names g c = names_nothing (g.I.Read.remaining c.args.input) (g.E.Write.contents c.args.faults.now)
