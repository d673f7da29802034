-- The first that waits is given.
use Rattle.std.proofs.Common.{◌≡◌, [], subst}
use Rattle.std.specs.Prelude.{MatchOption}
use Rattle.modem_driver.specs.Endpoints.{EndpointState, GivesLine}
use Rattle.modem_driver.proofs.endpoints.Handing.{polls_line}
use Rattle.modem_driver.proofs.endpoint.Endpoint.poll_unsolicited.Goals as goal

pub returns : goal.returns
returns c =
    let e = c.self.inside in
    let r = c.next_line.result in
    let new : EndpointState = record { machine = c.next_line.new.self; next = e.next } in
    subst (λ (v : EndpointState). MatchOption r ((v.machine.unannounced ≡ []) × (new ≡ v)) (λ o. GivesLine v new o)) c.self.view_is
    (polls_line r e.machine c.next_line.new.self e.next c.next_line.ensures)
