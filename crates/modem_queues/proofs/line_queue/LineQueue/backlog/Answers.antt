-- It is counted.
use Rattle.std.proofs.Common.{ap, ◌∙◌, ◌≡◌, ◌<◌, arith}
use Rattle.modem_history.specs.Sessions.{backlog_in}
use Rattle.modem_queues.specs.LineQueues.{LineQueue}
use Rattle.modem_queues.proofs.lists.LineCounts.{counts_channel}
use Rattle.modem_queues.proofs.line_queue.LineQueue.backlog.Goals as goal

pub returns : goal.returns
returns c =
    let is : c.from.result ≡ c.args.dlci.number = c.from.ensures ∙ c.number.ensures.number in
    let small : c.from.result < 62 = omega (arith, is, c.args.dlci.in_range) in
    counts_channel c.self.inside.channels c.self.inside.kinds c.self.inside.lines.items c.from.result c.self.invariant small
    ∙ (ap (λ n. backlog_in n c.self.inside.lines.items) is ∙ ap (λ (q : LineQueue). backlog_in c.args.dlci.number q.items) c.self.view_is)
