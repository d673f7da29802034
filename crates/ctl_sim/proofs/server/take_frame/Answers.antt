use Rattle.std.proofs.Common.{List, ℕ, [], refl, sym, subst, rules, length, ◌≡◌, ◌++◌, ◌∙◌}
use Rattle.mux_frame.specs.Reading.{Reads}
use Rattle.ctl_sim.specs.Endless.{IsEndlessAt}
use Rattle.ctl_sim.specs.EndlessClients.{IsEndlessMux}
use Rattle.ctl_sim.specs.Leaving.{IsOfModemBy}
use Rattle.ctl_sim.specs.Standing.{setting_by}
use Rattle.ctl_sim.proofs.EndlessClients.{endless_mux}
use Rattle.ctl_sim.proofs.Leaving.{endless_so, given_so}
use Rattle.ctl_sim.proofs.Stepping.{frame_by, frame_less, front_kept, keeps_by, keeps_less}
use Rattle.ctl_sim.proofs.LeftOctets.{frame_ends, keeps_ends}
use Rattle.ctl_sim.proofs.server.take_frame.Goals as goal

pub first_frame-requires-clause-seen : goal.first_frame-requires-clause-seen
first_frame-requires-clause-seen c =
    let seen : c.len-seen.result ≡ length c.mux.inside.kept.items = search rules in
    let text : c.as_slice.result.now ≡ c.mux.inside.kept.items ++ c.args.octets.now = c.as_slice.ensures.value ∙ c.in_ok-extend_from_slice.ensures.items in
    subst (λ (l : List ℕ). Reads c.mux.inside.n1.octets l [] l) (sym (front_kept c.len-seen.result c.mux.inside.kept.items c.args.octets.now c.as_slice.result.now seen text)) c.mux.invariant

pub returns-in_err-handle-in-Frame-clause-fault : goal.returns-in_err-handle-in-Frame-clause-fault
returns-in_err-handle-in-Frame-clause-fault c =
    given_so (IsOfModemBy (IsEndlessMux c.args.mux c.args.octets.now)) _ _ c.from_residual-in_err-handle-in-Frame.ensures.1
    (endless_so {P = IsEndlessAt c.mux.inside.sim c.in-Frame.frame.now} {Q = IsEndlessMux c.args.mux c.args.octets.now} _
    (λ endless.
    endless_mux c.args.mux c.mux.inside.sim c.mux.inside.n1.octets c.mux.inside.kept.items c.args.octets.now c.as_slice.result.now c.in-Frame.frame.now c.in-Frame.behind.now
    (sym c.mux.view_is) (c.as_slice.ensures.value ∙ c.in_ok-extend_from_slice.ensures.items) (let found = rw c.in-Frame.is at c.in_ok-rest.ensures in (found.1, found.2)) endless)
    c.in_err-handle-in-Frame.ensures.fault)

pub returns-in-None-clause-fewer : goal.returns-in-None-clause-fewer
returns-in-None-clause-fewer c some =
    keeps_less c.mux.inside.n1.octets c.args.mux c.mux.inside.sim c.mux.inside.kept.items c.args.octets.now c.as_slice.result.now c.in-None.rest.now c.in_ok-kept-in-None.kept.items c.new.result.items
    (sym c.mux.view_is) (c.as_slice.ensures.value ∙ c.in_ok-extend_from_slice.ensures.items) c.in_ok-kept-in-None.ensures.items c.new.ensures.items (let found = rw c.in-None.is at c.in_ok-rest.ensures in (found.1, found.2)) some

pub returns-in-None-clause-steps : goal.returns-in-None-clause-steps
returns-in-None-clause-steps c = λ m.
    keeps_by (setting_by c.args.setup.now m) c.args.mux c.mux.inside.sim c.mux.inside.n1.octets c.mux.inside.kept.items c.args.octets.now c.as_slice.result.now c.in-None.rest.now c.in_ok-kept-in-None.kept.items c.new.result.items c.args.out.now.items
    (sym c.mux.view_is) (c.as_slice.ensures.value ∙ c.in_ok-extend_from_slice.ensures.items) c.in_ok-kept-in-None.ensures.items c.new.ensures.items (let found = rw c.in-None.is at c.in_ok-rest.ensures in (found.1, found.2))

pub returns-clause-fewer : goal.returns-clause-fewer
returns-clause-fewer c some =
    frame_less c.args.setup.now c.args.mux c.mux.inside.sim c.mux.inside.n1.octets c.mux.inside.kept.items c.args.octets.now c.as_slice.result.now c.in-Frame.frame.now c.in-Frame.behind.now c.in_ok-behind-in-Frame.behind.items
    c.args.out.now.items c.handle.new.out.items c.in_ok-handle-in-Frame.field-0
    (sym c.mux.view_is) (c.as_slice.ensures.value ∙ c.in_ok-extend_from_slice.ensures.items) c.in_ok-behind-in-Frame.ensures.items (let found = rw c.in-Frame.is at c.in_ok-rest.ensures in (found.1, found.2)) c.in_ok-handle-in-Frame.ensures.handles

pub returns-clause-steps : goal.returns-clause-steps
returns-clause-steps c = λ m.
    frame_by c.args.setup.now (setting_by c.args.setup.now m) c.args.mux c.mux.inside.sim c.mux.inside.n1.octets c.mux.inside.kept.items c.args.octets.now c.as_slice.result.now c.in-Frame.frame.now c.in-Frame.behind.now c.in_ok-behind-in-Frame.behind.items
    c.args.out.now.items c.handle.new.out.items c.in_ok-handle-in-Frame.field-0 refl
    (sym c.mux.view_is) (c.as_slice.ensures.value ∙ c.in_ok-extend_from_slice.ensures.items) c.in_ok-behind-in-Frame.ensures.items (let found = rw c.in-Frame.is at c.in_ok-rest.ensures in (found.1, found.2)) c.in_ok-handle-in-Frame.ensures.handles

pub returns-in-None-clause-ends : goal.returns-in-None-clause-ends
returns-in-None-clause-ends c =
    keeps_ends c.args.mux c.mux.inside.sim c.mux.inside.n1.octets c.mux.inside.kept.items c.args.octets.now c.as_slice.result.now c.in-None.front.now c.in-None.rest.now c.in_ok-kept-in-None.kept.items c.new.result.items
    (sym c.mux.view_is) (c.as_slice.ensures.value ∙ c.in_ok-extend_from_slice.ensures.items) c.in_ok-kept-in-None.ensures.items c.new.ensures.items (let found = rw c.in-None.is at c.in_ok-rest.ensures in found.0)

pub returns-clause-ends : goal.returns-clause-ends
returns-clause-ends c =
    frame_ends c.args.setup.now c.args.mux c.mux.inside.sim c.mux.inside.n1.octets c.mux.inside.kept.items c.args.octets.now c.as_slice.result.now c.in-Frame.front.now c.in-Frame.frame.now c.in-Frame.behind.now c.in_ok-behind-in-Frame.behind.items
    c.args.out.now.items c.handle.new.out.items c.in_ok-handle-in-Frame.field-0
    (sym c.mux.view_is) (c.as_slice.ensures.value ∙ c.in_ok-extend_from_slice.ensures.items) c.in_ok-behind-in-Frame.ensures.items (let found = rw c.in-Frame.is at c.in_ok-rest.ensures in found.0)
    (let found = rw c.in-Frame.is at c.in_ok-rest.ensures in found.2) c.in_ok-handle-in-Frame.ensures.handles
