-- Each frame begins behind the one before it.
use Rattle.std.proofs.Common.{arith}
use Rattle.mux_station.proofs.queues.ControlQueues.{has_front, begins_first, begins_next}
use Rattle.mux_station.proofs.control_octets.place_of.Goals as goal

pub loop-init : goal.loop-init
loop-init c = begins_first c.args.octets.now.items c.args.count c.requires (omega arith)

pub extent_at-extent-requires : goal.extent_at-extent-requires
extent_at-extent-requires c = has_front c.args.octets.now.items c.args.count c.requires c.loop.counter c.loop.place c.loop.invariant

pub loop-preserved : goal.loop-preserved
loop-preserved c =
    let e = c.extent_at-extent in
    begins_next c.args.octets.now.items c.args.count c.requires c.loop.counter c.loop.place _ e.result.lead e.result.info c.loop.invariant (omega arith) e.ensures.lead e.ensures.info (omega arith)
