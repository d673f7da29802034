-- The frame whose turn it is is the next.
use Rattle.std.specs.Prelude.{◌≡◌, Some, refl}
use Rattle.std.proofs.Common.{◌∙◌, ap}
use Rattle.mux_station.specs.Giving.{turn_at}
use Rattle.mux_station.specs.GivenFrames.{Data, outgoing_of, as_turn}
use Rattle.mux_station.proofs.turns.ReadyConnections.{control_waits, data_next, data_after}
use Rattle.mux_station.proofs.station.Station.give.Goals as goal

pub give_control-requires : goal.give_control-requires
give_control-requires c =
    control_waits c.args.self.now c.args.self.now.queue (c.requires ∙ ap (λ t. Some (as_turn t)) c.in-Control.is)

pub returns-in-Data : goal.returns-in-Data
returns-in-Data c =
    let v = c.args.self.now in
    let d = c.in-Data.dlci.number in
    let turn : turn_at v v.queue ≡ Some (Data d) = c.requires ∙ ap (λ t. Some (as_turn t)) c.in-Data.is in (
      (refl, (λ _. tt), c.give_data.follows.holds-at-none ∙ data_after v v.queue d turn),
      record {
        frame = data_next v v.queue d (outgoing_of c.give_data.result) turn c.give_data.ensures.frame;
        short = c.give_data.ensures.short;
        after = tt;
      },
    )
