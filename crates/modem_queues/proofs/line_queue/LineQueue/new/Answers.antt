-- None is counted.
use Rattle.modem_queues.proofs.lists.LineCounts.{counted_at_first}
use Rattle.modem_queues.proofs.line_queue.LineQueue.new.Goals as goal

pub invariant_of-result : goal.invariant_of-result
invariant_of-result c = counted_at_first c.new.result.items c.new.ensures.items
