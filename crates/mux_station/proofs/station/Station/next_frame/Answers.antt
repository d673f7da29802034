-- No frame is next where it is nobody's turn.
use Rattle.std.specs.Prelude.{◌≡◌, ◌≤◌, ◌==◌, length, None, IfSome, refl, option_map}
use Rattle.std.proofs.Common.{◌∙◌, ap, sym, subst}
use Rattle.mux_station.specs.Giving.{turn_at}
use Rattle.mux_station.specs.GivenFrames.{outgoing_of, with_freshness}
use Rattle.mux_station.proofs.turns.ReadyConnections.{none_next, none_after}
use Rattle.mux_station.proofs.station.Station.next_frame.Goals as goal

pub returns-in_err-turn : goal.returns-in_err-turn
returns-in_err-turn c =
    let v = c.args.self.now in
    let none : turn_at v v.queue ≡ None = sym c.in_err-turn.ensures.turn in (
      (refl, λ _. tt, sym (none_after v v.queue none)),
      record {
        frame = ap (option_map outgoing_of) c.from_residual.ensures ∙ ap (option_map (with_freshness (length v.queue == 0))) (sym (none_next v v.queue none));
        short = subst (λ r. IfSome r (λ o. length o.frame.info.now ≤ 1024)) (sym c.from_residual.ensures) tt;
        after = tt;
      },
    )
