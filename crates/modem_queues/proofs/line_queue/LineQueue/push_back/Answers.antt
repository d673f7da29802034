-- The last is counted.
use Rattle.std.proofs.Common.{◌∙◌, ◌≡◌, ◌<◌, arith}
use Rattle.modem_queues.proofs.lists.LineCounts.{channel_room, kind_room}
use Rattle.modem_queues.proofs.line_queue.LineQueue.push_back.Goals as goal

pub raise-requires-clause-few : goal.raise-requires-clause-few
raise-requires-clause-few c =
    let is : c.from-channel.result ≡ c.args.line.dlci.number = c.from-channel.ensures ∙ c.number.ensures.number in
    let small : c.from-channel.result < 62 = omega (arith, is, c.args.line.dlci.in_range) in
    channel_room c.self.inside.channels c.self.inside.kinds c.self.inside.lines.items c.push_back.new.self.items c.args.line c.from-channel.result c.len-many.result c.self.invariant small
    c.in_ok-push_back.ensures.items (c.len-many.ensures ∙ c.push_back.new.self.ok.0)

pub raise-requires-2-clause-few : goal.raise-requires-2-clause-few
raise-requires-2-clause-few c =
    kind_room c.self.inside.channels c.self.inside.kinds c.self.inside.lines.items c.push_back.new.self.items c.args.line c.place-kind.result c.len-many.result c.self.invariant c.place-kind.ensures.few
    c.in_ok-push_back.ensures.items (c.len-many.ensures ∙ c.push_back.new.self.ok.0)
