-- The connection is the one of that number.
use Rattle.modem_c.proofs.TakenRequests.{numbers_at}
use Rattle.modem_c.proofs.requests.close.Goals as goal

pub returns-clause-takes : goal.returns-clause-takes
returns-clause-takes c = numbers_at _ _ _ c.args.dlci _ c.close.ensures.takes
