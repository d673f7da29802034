-- One more line is counted.
use Rattle.std.proofs.Common.{sym, ◌∙◌, ◌≡◌, ◌<◌, arith, subst, []}
use Rattle.modem_queues.specs.LineQueues.{channel_of, place_of}
use Rattle.modem_queues.proofs.lists.LineCounts.{counted_none, room_further}
use Rattle.modem_queues.proofs.line_queue.LineQueue.of.Goals as goal

pub loop-place-init : goal.loop-place-init
loop-place-init c = counted_none []

pub raise-requires-clause-few : goal.raise-requires-clause-few
raise-requires-clause-few c =
    let is : c.from.result ≡ c.index-line.result.now.dlci.number = c.from.ensures ∙ c.number.ensures.number in
    let small : c.from.result < 62 = omega (arith, is, c.index-line.result.now.dlci.in_range) in
    room_further channel_of c.loop-place.channels c.args.lines.items c.from.result c.loop-place.place c.len-many.result c.loop-place.invariant.by_channel (subst (λ n. c.from.result < n) (sym c.loop-place.invariant.all_channels) small) c.loop-place-test.true (c.len-many.ensures ∙ c.args.lines.ok.0)

pub raise-requires-in-loop-place-clause-few : goal.raise-requires-in-loop-place-clause-few
raise-requires-in-loop-place-clause-few c =
    room_further place_of c.loop-place.kinds c.args.lines.items c.place.result c.loop-place.place c.len-many.result c.loop-place.invariant.by_kind (subst (λ n. c.place.result < n) (sym c.loop-place.invariant.all_kinds) c.place.ensures.few) c.loop-place-test.true (c.len-many.ensures ∙ c.args.lines.ok.0)
