-- None is ready under the stop of all, and else the first that may send.
use Rattle.std.proofs.Common.{◌∙◌, ap, sym}
use Rattle.mux_station.specs.Stations.{Station}
use Rattle.mux_station.specs.Marks.{first_sender}
use Rattle.mux_station.proofs.turns.ReadyConnections.{first_ready_alone, first_ready_never}
use Rattle.mux_station.proofs.station.Station.first_ready.Goals as goal

pub returns-then-is_all_held_up : goal.returns-then-is_all_held_up
returns-then-is_all_held_up c =
    sym (first_ready_never c.args.self.now c.args.from c.requires.not_zero (sym c.is_all_held_up.ensures ∙ c.if-is_all_held_up.true))

pub returns : goal.returns
returns c =
    c.first_sender.ensures
    ∙ (ap (λ (v : Station). first_sender v.channels c.args.from) c.self.view_is
    ∙ sym (first_ready_alone c.args.self.now c.args.from c.requires.not_zero (sym c.is_all_held_up.ensures ∙ c.if-is_all_held_up.false)))
