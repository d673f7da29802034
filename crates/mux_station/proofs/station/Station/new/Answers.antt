-- A new station fits the empty past.
use Rattle.std.proofs.Common.{ap}
use Rattle.mux_station.specs.ControlQueues.{ControlQueue}
use Rattle.mux_station.proofs.states.StationPasts.{new_fits}
use Rattle.mux_station.proofs.station.Station.new.Goals as goal

pub returns-clause-past : goal.returns-clause-past
returns-clause-past c = new_fits c.args.role c.in-Some.n1.octets c.in_ok-channels.channels c.in_ok-control.control.frames c.in_ok-channels.ensures (ap (λ (q : ControlQueue). q.frames) c.in_ok-control.ensures)
