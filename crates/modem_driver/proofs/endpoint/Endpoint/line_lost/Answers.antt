-- Frames at hand were handled alone.
use Rattle.std.proofs.Common.{subst}
use Rattle.modem_driver.specs.Endpoints.{EndpointState, Refuses}
use Rattle.modem_driver.proofs.endpoints.Requests.{always_err, refuses}
use Rattle.modem_driver.proofs.endpoint.Endpoint.line_lost.Goals as goal

pub returns-then-is_lost-clause-refused : goal.returns-then-is_lost-clause-refused
returns-then-is_lost-clause-refused c =
    let e = c.self.inside in
    subst (λ (v : EndpointState). Refuses v (record { machine = c.handle_frames-frames.new.self; next = e.next })) c.self.view_is
    (refuses e.machine c.handle_frames-frames.new.self e.next c.handle_frames-frames.ensures.handles)

pub returns-in_err-frames-clause-refused : goal.returns-in_err-frames-clause-refused
returns-in_err-frames-clause-refused c =
    let e = c.self.inside in
    let new : EndpointState = record { machine = c.handle_frames-frames.new.self; next = e.next } in
    always_err (Refuses c.args.self.now new) c.from_residual.result
    (subst (λ (v : EndpointState). Refuses v new) c.self.view_is (refuses e.machine c.handle_frames-frames.new.self e.next c.handle_frames-frames.ensures.handles))
