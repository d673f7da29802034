-- The worked callers.
use Rattle.ctl_drive.proofs.OrderRowFacts.{told}
use Rattle.ctl_drive.proofs.laws.worked_orders.Goals as goal

pub returns-clause-told : goal.returns-clause-told
returns-clause-told c = told
