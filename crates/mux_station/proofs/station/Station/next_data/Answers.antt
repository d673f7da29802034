-- Where none is ready, it is nobody's turn.
use Rattle.std.specs.Prelude.{option_map}
use Rattle.std.proofs.Common.{◌∙◌, ap, sym}
use Rattle.mux_station.specs.GivenFrames.{dlci_of}
use Rattle.mux_station.proofs.turns.ReadyConnections.{none_at_all}
use Rattle.mux_station.proofs.station.Station.next_data.Goals as goal

pub returns-in_err-least : goal.returns-in_err-least
returns-in_err-least c = ap (option_map dlci_of) c.from_residual.ensures ∙ sym (none_at_all c.args.self.now (sym c.in_err-least.ensures))
