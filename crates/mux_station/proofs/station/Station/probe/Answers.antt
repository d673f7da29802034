-- An accepted call does what it asks for.
use Rattle.mux_station.proofs.user_calls.OpenAndClose.{on_accepted}
use Rattle.mux_station.proofs.user_calls.ProbeStopFlowOffer.{probe_handles}
use Rattle.mux_station.proofs.station.Station.probe.Goals as goal

pub returns-clause-past : goal.returns-clause-past
returns-clause-past c =
    let asked = c.ask_probe in
    on_accepted asked.result _ asked.ensures.refusal asked.ensures.ok (λ none same. probe_handles c.args.self.now asked.new.self c.args.octets.now none same)
