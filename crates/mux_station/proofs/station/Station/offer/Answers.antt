-- An accepted call does what it asks for.
use Rattle.mux_station.proofs.user_calls.OpenAndClose.{on_accepted}
use Rattle.mux_station.proofs.user_calls.ProbeStopFlowOffer.{offer_handles}
use Rattle.mux_station.proofs.station.Station.offer.Goals as goal

pub returns-clause-past : goal.returns-clause-past
returns-clause-past c =
    let asked = c.take_offer in
    on_accepted asked.result _ asked.ensures.refusal asked.ensures.ok (λ none same. offer_handles c.args.self.now asked.new.self c.args.dlci.number c.args.octets.now c.args.dlci.in_range asked.ensures.all none same)
