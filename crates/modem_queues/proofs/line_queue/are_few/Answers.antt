-- Counts are below 256 where their bits together are.
use Rattle.std.proofs.Common.{◌≡◌, ◌<◌, ◌∷◌, ◌+◌, drop, length, drop-cons, add-one, get_or}
use Rattle.std.proofs.lemmas.List.{drop_all}
use Rattle.modem_queues.proofs.lists.LineCounts.{few_further, few_last}
use Rattle.modem_queues.proofs.line_queue.are_few.Goals as goal

pub loop-count-preserved : goal.loop-count-preserved
loop-count-preserved c =
    let i = c.loop-count.count-index in
    let all = c.args.counts.now in
    let inside : i < length all = c.loop-count-test.true in
    let split : drop i all ≡ get_or all i 0 ∷ drop (i + 1) all = rw (add-one, drop-cons all i 0) in
    few_further c.loop-count.bits (get_or all i 0) (drop i all) (drop (i + 1) all) all split c.loop-count.invariant

pub returns : goal.returns
returns c =
    few_last c.loop-count.bits (drop c.loop-count.count-index c.args.counts.now) c.args.counts.now (drop_all c.loop-count.count-index c.args.counts.now c.loop-count-test.false) c.loop-count.invariant
