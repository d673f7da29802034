-- The counts so far are below 256 where their bits together are.
use Rattle.std.specs.Prelude.{drop}
use Rattle.modem_queues.proofs.lists.LineCounts.{FewSoFar}
use Rattle.modem_queues.proofs.line_queue.are_few.Given as goal

abbrev pub invariant-loop-count : goal.invariant-loop-count
invariant-loop-count l = FewSoFar l.bits (drop l.count-index l.counts) l.counts
