-- All octets came, and the backlogs were looked at.
use Rattle.std.proofs.Common.{subst, take}
use Rattle.modem_driver.specs.Endpoints.{EndpointState, TakesOctets}
use Rattle.modem_driver.proofs.endpoints.WholeCalls.{takes_octets}
use Rattle.modem_driver.proofs.endpoint.Endpoint.handle_input.Goals as goal

pub returns-clause-takes : goal.returns-clause-takes
returns-clause-takes c l d =
    let e = c.self.inside in
    let input = c.take_in-input.result in
    let octets = take input.taken c.args.octets.now in
    subst (λ (v : EndpointState). TakesOctets l d v (record { machine = c.check_backlogs-moved.new.self; next = e.next }) octets input.blocked) c.self.view_is
    (takes_octets e.machine c.take_in-input.new.self c.check_backlogs-moved.new.self e.next octets c.check_backlogs-moved.result input.blocked c.take_in-input.ensures.takes c.check_backlogs-moved.ensures.checks l d)
