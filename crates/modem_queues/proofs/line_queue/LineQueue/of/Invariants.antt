-- The lines before it are counted.
use Rattle.std.proofs.Common.{take}
use Rattle.modem_queues.specs.LineQueues.{AreCounted}
use Rattle.modem_queues.proofs.line_queue.LineQueue.of.Given as goal

abbrev pub invariant-loop-place : goal.invariant-loop-place
invariant-loop-place l = AreCounted l.channels l.kinds (take l.place l.lines.items)
