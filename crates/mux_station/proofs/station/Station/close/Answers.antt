-- An accepted call queues its frame.
use Rattle.mux_station.proofs.user_calls.OpenAndClose.{on_accepted, close_handles}
use Rattle.mux_station.proofs.station.Station.close.Goals as goal

pub returns-clause-past : goal.returns-clause-past
returns-clause-past c =
    let asked = c.ask_close in
    on_accepted asked.result _ asked.ensures.refusal asked.ensures.ok (λ none same. close_handles c.args.self.now asked.new.self c.args.dlci.number c.args.dlci.in_range asked.ensures.all none same)
