-- Frames at hand were handled alone.
use Rattle.std.proofs.Common.{subst}
use Rattle.std.specs.Prelude.{OnErr}
use Rattle.modem_driver.specs.Endpoints.{EndpointState, Refuses}
use Rattle.modem_driver.proofs.endpoints.Requests.{always_err, refuses, refused_by}
use Rattle.modem_driver.proofs.endpoint.Endpoint.tick.Goals as goal

pub returns-then-is_lost-clause-refused : goal.returns-then-is_lost-clause-refused
returns-then-is_lost-clause-refused c =
    let e = c.self.inside in
    subst (λ (v : EndpointState). Refuses v (record { machine = c.handle_frames-handled.new.self; next = e.next })) c.self.view_is
    (refuses e.machine c.handle_frames-handled.new.self e.next c.handle_frames-handled.ensures.handles)

pub returns-clause-refused : goal.returns-clause-refused
returns-clause-refused c =
    let e = c.self.inside in
    subst (λ (v : EndpointState). OnErr c.tick.result (Refuses v (record { machine = c.tick.new.self; next = e.next }))) c.self.view_is
    (refused_by c.tick.result e.machine c.handle_frames-handled.new.self c.tick.new.self e.next c.handle_frames-handled.ensures.handles c.tick.ensures.err)

pub returns-in_err-handled-clause-refused : goal.returns-in_err-handled-clause-refused
returns-in_err-handled-clause-refused c =
    let e = c.self.inside in
    let new : EndpointState = record { machine = c.handle_frames-handled.new.self; next = e.next } in
    always_err (Refuses c.args.self.now new) c.from_residual.result
    (subst (λ (v : EndpointState). Refuses v new) c.self.view_is (refuses e.machine c.handle_frames-handled.new.self e.next c.handle_frames-handled.ensures.handles))
