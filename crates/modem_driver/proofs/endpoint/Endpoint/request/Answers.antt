-- Frames at hand were handled alone.
use Rattle.std.proofs.Common.{◌<◌, ◌+◌, length, refl, sym, ◌∙◌, subst}
use Rattle.modem_driver.specs.Endpoints.{EndpointState, Numbers, Refuses}
use Rattle.modem_driver.proofs.endpoints.Requests.{numbers, refuses}
use Rattle.modem_driver.proofs.sessions.steps.NextRequest.{not_full}
use Rattle.modem_driver.proofs.endpoint.Endpoint.request.Goals as goal

pub returns-in_default-clause-refused : goal.returns-in_default-clause-refused
returns-in_default-clause-refused c =
    let e = c.self.inside in
    subst (λ (v : EndpointState). Refuses v (record { machine = c.handle_frames-handled.new.self; next = e.next })) c.self.view_is
    (refuses e.machine c.handle_frames-handled.new.self e.next c.handle_frames-handled.ensures.handles)

pub returns-then-self-clause-refused : goal.returns-then-self-clause-refused
returns-then-self-clause-refused c =
    let e = c.self.inside in
    subst (λ (v : EndpointState). Refuses v (record { machine = c.handle_frames-handled.new.self; next = e.next })) c.self.view_is
    (refuses e.machine c.handle_frames-handled.new.self e.next c.handle_frames-handled.ensures.handles)

pub returns-clause-takes : goal.returns-clause-takes
returns-clause-takes c =
    let e = c.self.inside in
    let k = c.handle_frames-handled.new.self in
    let n = length k.core.hand + length k.unplaced in
    let room : n < 128 = not_full n (sym c.is_full.ensures ∙ c.if-is_full.false) in
    subst (λ (v : EndpointState). Numbers v (record { machine = c.take_request.new.self; next = e.next + 1 }) c.args.ask e.next) c.self.view_is
    (numbers e.machine k c.take_request.new.self e.next (e.next + 1) c.args.ask c.handle_frames-handled.ensures.handles c.in-Ok.ensures.lacks room c.take_request.ensures.takes refl)
