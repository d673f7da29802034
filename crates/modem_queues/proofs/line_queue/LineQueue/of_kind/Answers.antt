-- It is counted.
use Rattle.std.proofs.Common.{ap, ◌∙◌, length}
use Rattle.at_text.specs.Kinds.{kind_place}
use Rattle.modem_queues.specs.LineQueues.{LineQueue}
use Rattle.modem_queues.specs.LineQueues.{of_key, place_of}
use Rattle.modem_queues.proofs.lists.LineCounts.{counts_kind}
use Rattle.modem_queues.proofs.line_queue.LineQueue.of_kind.Goals as goal

pub returns : goal.returns
returns c =
    counts_kind c.self.inside.channels c.self.inside.kinds c.self.inside.lines.items c.place.result c.self.invariant c.place.ensures.few
    ∙ (ap (λ n. length (of_key place_of n c.self.inside.lines.items)) c.place.ensures.place
    ∙ ap (λ (q : LineQueue). length (of_key place_of (kind_place c.args.kind) q.items)) c.self.view_is)
