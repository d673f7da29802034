-- A control frame goes out before data, and data goes out in turn.
use Rattle.std.specs.Prelude.{◌≡◌, ◌==◌, ◌<◌, length, true, option_map}
use Rattle.std.proofs.Common.{◌∙◌, ap, sym, subst}
use Rattle.mux_station.specs.Stations.{Station}
use Rattle.mux_station.specs.GivenFrames.{Data, as_turn}
use Rattle.mux_station.proofs.turns.NextData.{turn_alone, goes_next}
use Rattle.mux_station.proofs.station.Station.next_turn.Goals as goal

pub returns-in_err-dlci-clause-turn : goal.returns-in_err-dlci-clause-turn
returns-in_err-dlci-clause-turn c =
    let v = c.args.self.now in
    let alone : (length v.queue == 0) ≡ true = ap (λ (w : Station). length w.queue == 0) (sym c.self.view_is) ∙ (sym c.is_empty.ensures ∙ c.if-not-is_empty.false) in
    ap (option_map as_turn) c.from_residual.ensures ∙ (ap (option_map Data) c.in_err-dlci.ensures ∙ sym (turn_alone v v.queue alone))

pub returns-clause-turn : goal.returns-clause-turn
returns-clause-turn c =
    let v = c.args.self.now in
    let alone : (length v.queue == 0) ≡ true = ap (λ (w : Station). length w.queue == 0) (sym c.self.view_is) ∙ (sym c.is_empty.ensures ∙ c.if-not-is_empty.false) in
    ap (option_map Data) c.in_ok-dlci.ensures ∙ sym (turn_alone v v.queue alone)

pub returns-clause-past : goal.returns-clause-past
returns-clause-past c =
    let v = c.args.self.now in
    let last : v.last < 62 = subst (λ (w : Station). w.last < 62) c.self.view_is c.self.invariant.last_in_range in
    let alone : (length v.queue == 0) ≡ true = ap (λ (w : Station). length w.queue == 0) (sym c.self.view_is) ∙ (sym c.is_empty.ensures ∙ c.if-not-is_empty.false) in
    λ past h. goes_next v past (Data c.in_ok-dlci.dlci.number) last h (turn_alone v v.queue alone ∙ sym (ap (option_map Data) c.in_ok-dlci.ensures))
