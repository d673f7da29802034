-- No octets are no frames.
use Rattle.mux_station.proofs.queues.ControlQueues.{none_kept, none_seen}
use Rattle.mux_station.proofs.control_queue.ControlQueue.new.Goals as goal

pub invariant_of-result : goal.invariant_of-result
invariant_of-result c = none_kept c.in_ok-octets.octets c.in_ok-spelling.spelling c.args.room c.in_ok-octets.ensures c.in_ok-spelling.ensures

pub returns : goal.returns
returns c = none_seen c.in_ok-octets.octets c.args.room c.in_ok-octets.ensures
