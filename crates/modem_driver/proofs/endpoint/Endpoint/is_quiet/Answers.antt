-- No octets came, and the backlogs call for nothing.
use Rattle.std.proofs.Common.{subst, [], false, None}
use Rattle.modem_driver.specs.Endpoints.{EndpointState, TakesOctets}
use Rattle.modem_driver.proofs.endpoints.TakenOctets.{no_octets_taken}
use Rattle.modem_driver.proofs.endpoints.WholeCalls.{takes_octets}
use Rattle.modem_driver.proofs.endpoint.Endpoint.is_quiet.Goals as goal

pub returns-clause-takes : goal.returns-clause-takes
returns-clause-takes c = λ is l d.
    let e = c.self.inside in
    subst (λ (v : EndpointState). TakesOctets l d v v [] None) c.self.view_is
    (takes_octets e.machine e.machine e.machine e.next [] false None (no_octets_taken e.machine) (c.is_quiet.ensures.checks is) l d)
