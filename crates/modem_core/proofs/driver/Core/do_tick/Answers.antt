-- The station's tick, and what those in hand are told.
use Rattle.std.specs.Prelude.{◌≡◌, ◌&&◌, not, Bool, List, false, refl}
use Rattle.std.specs.List.{list_any}
use Rattle.std.proofs.Common.{ap, sym, ◌∙◌, subst}
use Rattle.mux_station.specs.States.{is_opened}
use Rattle.mux_station.specs.Stations.{channel_at}
use Rattle.modem_desk.specs.declared.request.Request.{Request}
use Rattle.modem_history.specs.Acts.{Tick}
use Rattle.modem_core.specs.Telling.{told_by, left_by}
use Rattle.modem_core.specs.Ticked.{asking_from, is_probe_given}
use Rattle.modem_core.specs.Cores.{Core, state_shown}
use Rattle.modem_core.specs.Doing.{Does, QueuesAtMost}
use Rattle.modem_core.specs.declared.telling.Happened.TheVariants as happened
use Rattle.modem_core.proofs.ticks.CoreTicks.{Ticks, tick_queues, tick_since}
use Rattle.modem_core.proofs.holds.OtherCalls.{keeps_tick}
use Rattle.modem_core.proofs.cores.DoneCalls.{does_telling}
use Rattle.modem_core.proofs.driver.Core.do_tick.Goals as goal
use Rattle.modem_core.proofs.driver.Core.do_tick.Goals.{then-ran, else-ran}

pub returns-clause-does : goal.returns-clause-does
returns-clause-does c =
    let w = c.tick-noticed.new.self in
    let g = c.has_probe.result in
    let e = c.if-ran.ended in
    let says = told_by (happened.Tick g) e (state_shown w false) in
    let v : Core = record { station = c.self.inside.station; lanes = c.self.inside.lanes; hand = c.self.inside.hand; rules = c.self.inside.dialect; kinds = c.self.inside.kinds.items; lost = c.self.inside.lost } in
    let live : v.lost ≡ false = ap (λ (x : Core). x.lost) c.self.view_is ∙ c.requires.live in
    let new : Core = record v { station = w; hand = c.tell_on.new.hand } in
    let same : new ≡ record v { station = w; hand = left_by says v.hand } = ap (λ (rs : List Request). record v { station = w; hand = rs }) c.tell_on.ensures.hand in
    let ticks : Ticks v w c.tick-noticed.result.items g e = record {
      goes_on = c.tick-noticed.ensures.past;
      given = c.tick-noticed.ensures.noticed;
      given_is = c.has_probe.ensures ∙ ap (list_any is_probe_given) c.as_slice.ensures.value;
      ended_is = elim c.if-ran.branch [
        | then-ran b ↦ b.ended-is ∙ (ap not b.is_running.ensures ∙ sym (ap (λ (x : Bool). x && not (is_opened (channel_at w 0).state)) (sym c.is_running-ran.ensures ∙ b.if-ran.true)))
        | else-ran b ↦ b.ended-is ∙ (b.if-ran.false ∙ sym (ap (λ (x : Bool). x && not (is_opened (channel_at w 0).state)) (sym c.is_running-ran.ensures ∙ b.if-ran.false)))
      ];
    } in
    let since = tick_since v new w c.tick-noticed.result.items g e c.self.invariant.role_is live ticks same in
    subst (λ (x : Core). Does x new c.args.told.now.items c.tell_on.new.told.items Tick c.tell_on.result) c.self.view_is
    (does_telling v new c.args.told.now.items c.tell_on.new.told.items Tick c.tell_on.result says (λ s. refl) since (keeps_tick v new _ refl since) c.tell_on.ensures.adds c.tell_on.ensures.answered)

pub returns-clause-queues : goal.returns-clause-queues
returns-clause-queues c =
    let w = c.tick-noticed.new.self in
    let g = c.has_probe.result in
    let e = c.if-ran.ended in
    let v : Core = record { station = c.self.inside.station; lanes = c.self.inside.lanes; hand = c.self.inside.hand; rules = c.self.inside.dialect; kinds = c.self.inside.kinds.items; lost = c.self.inside.lost } in
    let live : v.lost ≡ false = ap (λ (x : Core). x.lost) c.self.view_is ∙ c.requires.live in
    let new : Core = record v { station = w; hand = c.tell_on.new.hand } in
    let ticks : Ticks v w c.tick-noticed.result.items g e = record {
      goes_on = c.tick-noticed.ensures.past;
      given = c.tick-noticed.ensures.noticed;
      given_is = c.has_probe.ensures ∙ ap (list_any is_probe_given) c.as_slice.ensures.value;
      ended_is = elim c.if-ran.branch [
        | then-ran b ↦ b.ended-is ∙ (ap not b.is_running.ensures ∙ sym (ap (λ (x : Bool). x && not (is_opened (channel_at w 0).state)) (sym c.is_running-ran.ensures ∙ b.if-ran.true)))
        | else-ran b ↦ b.ended-is ∙ (b.if-ran.false ∙ sym (ap (λ (x : Bool). x && not (is_opened (channel_at w 0).state)) (sym c.is_running-ran.ensures ∙ b.if-ran.false)))
      ];
    } in
    subst (λ (x : Core). QueuesAtMost (asking_from x.station 0 62) 0 x new Tick) c.self.view_is
    (tick_queues v new w c.tick-noticed.result.items g e c.self.invariant.role_is live ticks refl)
