-- The first that waits is given.
use Rattle.std.proofs.Common.{◌≡◌, [], subst}
use Rattle.std.specs.Prelude.{MatchOption}
use Rattle.modem_driver.specs.Endpoints.{EndpointState, GivesOutcome}
use Rattle.modem_driver.proofs.endpoints.Handing.{polls_outcome}
use Rattle.modem_driver.proofs.endpoint.Endpoint.poll_outcome.Goals as goal

pub returns : goal.returns
returns c =
    let e = c.self.inside in
    let r = c.next_outcome.result in
    let new : EndpointState = record { machine = c.next_outcome.new.self; next = e.next } in
    subst (λ (v : EndpointState). MatchOption r ((v.machine.unplaced ≡ []) × (new ≡ v)) (λ o. GivesOutcome v new o)) c.self.view_is
    (polls_outcome r e.machine c.next_outcome.new.self e.next c.next_outcome.ensures)
