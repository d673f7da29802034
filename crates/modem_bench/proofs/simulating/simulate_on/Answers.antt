-- Polls that gave nothing, and one that gave an end.
use Rattle.std.proofs.Common.{◌∙◌}
use Rattle.modem_bench.proofs.Simulations.{ends_if_told, waited_then}
use Rattle.modem_bench.proofs.simulating.simulate_on.Goals as goal

pub returns-in-Some-advance-clause-ended : goal.returns-in-Some-advance-clause-ended
returns-in-Some-advance-clause-ended g c =
    ends_if_told g.L.SerialLine.seen c.args.sim.now c.loop.sim c.advance.new.self c.in-Some-advance.given c.ended.result
    c.loop.invariant.waited c.in-Some-advance.ensures.polls c.in-Some-advance.ensures.goes c.ended.ensures.ended

pub loop-preserved : goal.loop-preserved
loop-preserved g c = record {
  waited = waited_then g.L.SerialLine.seen c.args.sim.now c.loop.sim c.advance.new.self c.loop.invariant.waited c.in-None-advance.ensures.polls c.in-None-advance.ensures.goes;
  beyond = c.in-None-advance.ensures.beyond ∙ c.loop.invariant.beyond;
}
