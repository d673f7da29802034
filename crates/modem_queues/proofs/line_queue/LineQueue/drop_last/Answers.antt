-- The last is counted no more.
use Rattle.std.proofs.Common.{◌∙◌}
use Rattle.modem_queues.proofs.lists.LineCounts.{counted_before}
use Rattle.modem_queues.proofs.line_queue.LineQueue.drop_last.Goals as goal

pub invariant_of-self-2 : goal.invariant_of-self-2
invariant_of-self-2 c =
    counted_before c.self.inside.channels c.self.inside.kinds c.lower.new.counts c.lower-2.new.counts c.self.inside.lines.items c.pop_back.new.self.items c.in-Some.line c.from.result c.place.result c.self.invariant
    c.in-Some.ensures.items (c.from.ensures ∙ c.number.ensures.number) c.place.ensures.place c.lower.ensures c.lower-2.ensures
