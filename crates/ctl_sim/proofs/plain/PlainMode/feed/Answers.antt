use Rattle.std.proofs.Common.{get_or}
use Rattle.std.proofs.lemmas.List.{get_or_default}
use Rattle.ctl_sim.proofs.Feeding.{fed_more, fed_none}
use Rattle.ctl_sim.proofs.plain.PlainMode.feed.Goals as goal

pub loop-count-init : goal.loop-count-init
loop-count-init c = fed_none c.args.self.now

pub loop-count-preserved : goal.loop-count-preserved
loop-count-preserved c =
    fed_more c.args.self.now c.loop-count.self c.push.new.self c.args.octets.now c.loop-count.count (get_or c.args.octets.now c.loop-count.count 0)
    c.loop-count-test.true c.loop-count.invariant
    (get_or_default c.args.octets.now c.loop-count.count 0 (get_or c.args.octets.now c.loop-count.count 0) c.loop-count-test.true) c.in_ok-push.ensures
