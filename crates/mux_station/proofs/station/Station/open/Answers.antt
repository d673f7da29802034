-- An accepted call queues its frame.
use Rattle.mux_station.proofs.user_calls.OpenAndClose.{on_accepted, open_handles}
use Rattle.mux_station.proofs.station.Station.open.Goals as goal

pub returns-clause-past : goal.returns-clause-past
returns-clause-past c =
    let asked = c.ask_open in
    on_accepted asked.result _ asked.ensures.refusal asked.ensures.ok (λ none same. open_handles c.args.self.now asked.new.self c.args.dlci.number c.args.dlci.in_range asked.ensures.all none same)
