-- So many first ones stand there as before.
use Rattle.std.specs.Prelude.{◌≡◌, length, take}
use Rattle.modem_queues.proofs.line_queue.LineQueue.keep_first.Given as goal

abbrev pub invariant-loop-self : goal.invariant-loop-self
invariant-loop-self l = take l.count l.self.items ≡ take l.count l.initial.self.items

abbrev pub decreases-loop-self : goal.decreases-loop-self
decreases-loop-self l = length l.self.items
