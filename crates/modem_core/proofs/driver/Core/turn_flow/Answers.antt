-- An MSC is sent, or there is no room for it.
use Rattle.std.specs.Prelude.{◌≡◌, ◌+◌, ◌*◌, ℕ, true, List, [], ◌∷◌, ◌++◌, refl, if◌then◌else◌}
use Rattle.std.proofs.Common.{ap, sym, ◌∙◌, subst}
use Rattle.mux_frame.specs.Frames.{kept_frame}
use Rattle.mux_station.specs.declared.role.Role.TheVariants.{Initiator}
use Rattle.mux_station.specs.Messages.{msc}
use Rattle.mux_station.specs.States.{is_opened}
use Rattle.mux_station.specs.Tables.{message_frame}
use Rattle.mux_station.specs.Stations.{channel_at}
use Rattle.modem_core.specs.ActLists.{ActList}
use Rattle.modem_core.specs.Cores.{Core}
use Rattle.modem_core.specs.Holding.{TurnsFlow, CannotTurn, CanTurn}
use Rattle.modem_history.specs.declared.act.Act.{Act}
use Rattle.modem_history.specs.declared.act.Act.TheVariants as code
use Rattle.modem_core.proofs.requests.AcceptedRequests.{pushed_on}
use Rattle.modem_core.proofs.holds.HeldAndFreed.{flow_frame}
use Rattle.modem_core.proofs.holds.HoldsDue.{flow_written, lacks_room, finds_room}
use Rattle.modem_core.proofs.driver.Core.turn_flow.Goals as goal

pub returns-then-not-has_room_to_flow-clause-no_room : goal.returns-then-not-has_room_to_flow-clause-no_room
returns-then-not-has_room_to_flow-clause-no_room c = λ k.
    let d = c.args.dlci in
    let v : Core = record { station = c.self.inside.station; lanes = c.self.inside.lanes; hand = c.self.inside.hand; rules = c.self.inside.dialect; kinds = c.self.inside.kinds.items; lost = c.self.inside.lost } in
    subst (λ (x : Core). CannotTurn x d.number c.args.go) c.self.view_is
    (lacks_room v d.number c.args.go c.self.invariant.role_is (ap (λ (x : Core). x.lost) c.self.view_is ∙ c.requires.live) d.in_range c.requires.not_zero
    (subst (λ (x : Core). is_opened (channel_at x.station d.number).state ≡ true) (sym c.self.view_is) c.requires.opened) (sym c.has_room_to_flow.ensures ∙ c.if-not-has_room_to_flow.true))

pub returns-in_err-msc-clause-no_memory : goal.returns-in_err-msc-clause-no_memory
returns-in_err-msc-clause-no_memory c = λ k.
    let d = c.args.dlci in
    let v : Core = record { station = c.self.inside.station; lanes = c.self.inside.lanes; hand = c.self.inside.hand; rules = c.self.inside.dialect; kinds = c.self.inside.kinds.items; lost = c.self.inside.lost } in
    subst (λ (x : Core). CanTurn x d.number c.args.go) c.self.view_is
    (finds_room v d.number c.args.go c.self.invariant.role_is (ap (λ (x : Core). x.lost) c.self.view_is ∙ c.requires.live) d.in_range c.requires.not_zero
    (subst (λ (x : Core). is_opened (channel_at x.station d.number).state ≡ true) (sym c.self.view_is) c.requires.opened) (sym c.has_room_to_flow.ensures ∙ c.if-not-has_room_to_flow.false))

pub returns-in_err-acts-clause-no_memory : goal.returns-in_err-acts-clause-no_memory
returns-in_err-acts-clause-no_memory c = λ k.
    let d = c.args.dlci in
    let v : Core = record { station = c.self.inside.station; lanes = c.self.inside.lanes; hand = c.self.inside.hand; rules = c.self.inside.dialect; kinds = c.self.inside.kinds.items; lost = c.self.inside.lost } in
    subst (λ (x : Core). CanTurn x d.number c.args.go) c.self.view_is
    (finds_room v d.number c.args.go c.self.invariant.role_is (ap (λ (x : Core). x.lost) c.self.view_is ∙ c.requires.live) d.in_range c.requires.not_zero
    (subst (λ (x : Core). is_opened (channel_at x.station d.number).state ≡ true) (sym c.self.view_is) c.requires.opened) (sym c.has_room_to_flow.ensures ∙ c.if-not-has_room_to_flow.false))

pub returns-clause-past : goal.returns-clause-past
returns-clause-past c =
    let d = c.args.dlci in
    let go = c.args.go in
    let frame : kept_frame c.in_ok-msc.msc ≡ flow_frame d.number go Initiator
    = c.in_ok-msc.ensures
    ∙ (ap (λ (n : ℕ). message_frame Initiator msc ((4 * n + 3) ∷ c.signals_of.result ∷ [])) c.number.ensures.number
    ∙ ap (λ (n : ℕ). message_frame Initiator msc ((4 * d.number + 3) ∷ n ∷ [])) c.signals_of.ensures) in
    let first = pushed_on c.in_ok-acts.acts c.push.new.self [] c.push.new.self.acts c.flow_act.result _ _ _ c.in_ok-acts.ensures c.push.ensures c.flow_act.ensures refl in
    let acts : c.into_vec.result.items ≡ (if go then code.Freed d else code.Held d) ∷ code.Sent c.in_ok-msc.msc ∷ []
    = c.into_vec.ensures ∙ (ap (λ (a : ActList). a.acts) c.push-2.ensures ∙ ap (λ (x : List Act). x ++ code.Sent c.in_ok-msc.msc ∷ []) first) in
    subst (TurnsFlow c.args.self.now c.do_flow.new.self d.number go) (sym (flow_written d go c.in_ok-msc.msc c.into_vec.result.items frame acts)) (c.do_flow.ensures.past c.if-not-do_flow.false)
