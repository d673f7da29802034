-- Each queue is empty.
use Rattle.std.proofs.Common.{rules}
use Rattle.std.specs.VecDeque.{deque_items}
use Rattle.ctl_drive.proofs.QueueTexts.{none_made}
use Rattle.ctl_drive.proofs.queues.Queues.new.Goals as goal

pub returns : goal.returns
returns c = none_made deque_items _ 62 c.from_fn.ensures.items.long (λ i q few. let call = c.from_fn.ensures.items.at i q few in search rules)
