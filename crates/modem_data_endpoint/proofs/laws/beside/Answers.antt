-- The law stands on that of the deframer and that of the endpoint.
use Rattle.modem_data_endpoint.proofs.Besides.{data_law}
use Rattle.modem_data_endpoint.proofs.laws.beside.Goals as goal

pub returns : goal.returns
returns c = data_law c.deframed.ensures c.endpoints.ensures.all
