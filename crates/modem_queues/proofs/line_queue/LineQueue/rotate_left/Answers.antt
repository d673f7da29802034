-- The same lines are counted.
use Rattle.modem_queues.proofs.lists.LineCounts.{counted_round}
use Rattle.modem_queues.proofs.line_queue.LineQueue.rotate_left.Goals as goal

pub invariant_of-self : goal.invariant_of-self
invariant_of-self c = counted_round c.self.inside.channels c.self.inside.kinds c.self.inside.lines.items c.rotate_left.new.self.items c.args.count c.self.invariant c.rotate_left.ensures.items
