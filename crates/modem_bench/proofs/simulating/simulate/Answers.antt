-- It is given back as it ended.
use Rattle.modem_bench.proofs.Simulations.{ended_back}
use Rattle.modem_bench.proofs.simulating.simulate.Goals as goal

pub returns : goal.returns
returns g c =
    ended_back g.L.SerialLine.seen g.L.SerialLine.other_side c.args.sim c.simulate_on-ended.new.sim c.simulate_on-ended.result c.or_give_up.result c.unless_failed.result
    c.simulate_on-ended.ensures.ended c.simulate_on-ended.ensures.beyond c.or_give_up.ensures c.unless_failed.ensures.ended c.unless_failed.ensures.kept
