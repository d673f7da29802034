-- An MSC is sent, or there is no room for it.
use Rattle.std.specs.Prelude.{◌≡◌, not, true, List, Some}
use Rattle.std.proofs.Common.{ap, sym, ◌∙◌, subst}
use Rattle.mux_station.specs.Sending as station_sending
use Rattle.mux_station.specs.States.{is_opened}
use Rattle.mux_station.specs.Stations.{channel_at}
use Rattle.modem_core.specs.Lanes.{Lane, turned}
use Rattle.modem_core.specs.Cores.{Core, lane_at}
use Rattle.modem_core.specs.Holding.{TurnsFlow, CannotTurn, acts_due}
use Rattle.modem_core.proofs.holds.HeldAndFreed.{Flowing}
use Rattle.modem_core.proofs.holds.HoldsDue.{turns_since, cannot_turn}
use Rattle.modem_core.proofs.driver.Core.do_flow.Goals as goal

pub returns-in-Err-clause-no_room : goal.returns-in-Err-clause-no_room
returns-in-Err-clause-no_room c = λ k.
    let d = c.args.dlci in
    let v : Core = record { station = c.self.inside.station; lanes = c.self.inside.lanes; hand = c.self.inside.hand; rules = c.self.inside.dialect; kinds = c.self.inside.kinds.items; lost = c.self.inside.lost } in
    subst (λ (x : Core). CannotTurn x d.number c.args.go) c.self.view_is
    (cannot_turn v d.number c.args.go c.in-Err._why c.self.invariant.role_is (ap (λ (x : Core). x.lost) c.self.view_is ∙ c.requires.live) d.in_range c.requires.not_zero
    (subst (λ (x : Core). is_opened (channel_at x.station d.number).state ≡ true) (sym c.self.view_is) c.requires.opened) (sym c.in-Err.ensures.refusal))

pub returns-clause-past : goal.returns-clause-past
returns-clause-past c = λ k.
    let d = c.args.dlci in
    let go = c.args.go in
    let w = c.flow.new.self in
    let v : Core = record { station = c.self.inside.station; lanes = c.self.inside.lanes; hand = c.self.inside.hand; rules = c.self.inside.dialect; kinds = c.self.inside.kinds.items; lost = c.self.inside.lost } in
    let new : Core = record v { station = w; lanes = c.turn.new.self } in
    let same : new ≡ record v { station = w; lanes = turned v.lanes d.number (not go) } = ap (λ (ls : List Lane). record v { station = w; lanes = ls }) c.turn.ensures in
    let flowing : Flowing v w d.number go = record {
      in_range = d.in_range;
      not_zero = c.requires.not_zero;
      opened = subst (λ (x : Core). is_opened (channel_at x.station d.number).state ≡ true) (sym c.self.view_is) c.requires.opened;
      held_is = subst (λ (x : Core). (lane_at x d.number).held ≡ go) (sym c.self.view_is) c.requires.held;
      taken_on = sym c.in_default.ensures.refusal;
      goes_on = c.in_default.ensures.past;
    } in
    subst (λ (x : Core). TurnsFlow x new d.number go (acts_due d.number (Some go))) c.self.view_is
    (turns_since v new w d.number go c.self.invariant.role_is (ap (λ (x : Core). x.lost) c.self.view_is ∙ c.requires.live) c.self.invariant.all flowing same)

pub returns-clause-n1 : goal.returns-clause-n1
returns-clause-n1 c = ap (λ (s : station_sending.StationSetting). s.n1) c.in_default.ensures.past.setting ∙ ap (λ (v : Core). v.station.n1) c.self.view_is
