use Rattle.mux_station.proofs.queues.ControlQueues.{seen_many}
use Rattle.mux_station.proofs.control_queue.ControlQueue.len.Goals as goal

pub returns : goal.returns
returns c = let i = c.self.inside in seen_many c.args.self.now i.octets.items i.count i.octets.capacity c.self.view_is
