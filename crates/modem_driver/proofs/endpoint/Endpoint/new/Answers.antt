-- The history is empty.
use Rattle.modem_driver.proofs.endpoints.Requests.{begins_standard}
use Rattle.modem_driver.proofs.endpoint.Endpoint.new.Goals as goal

pub returns-clause-begins : goal.returns-clause-begins
returns-clause-begins c =
    let made = c.in_ok-machine.ensures in
    begins_standard c.args.n1 c.args.kinds.now c.in_ok-machine.machine c.args.first _ _ made.bad_n1 made.ok made.past made.held
