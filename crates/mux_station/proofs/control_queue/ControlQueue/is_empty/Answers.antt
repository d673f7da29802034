use Rattle.std.specs.Prelude.{ℕ, ◌==◌}
use Rattle.std.proofs.Common.{ap}
use Rattle.mux_station.proofs.queues.ControlQueues.{seen_many}
use Rattle.mux_station.proofs.control_queue.ControlQueue.is_empty.Goals as goal

pub returns : goal.returns
returns c = let i = c.self.inside in ap (λ (n : ℕ). n == 0) (seen_many c.args.self.now i.octets.items i.count i.octets.capacity c.self.view_is)
