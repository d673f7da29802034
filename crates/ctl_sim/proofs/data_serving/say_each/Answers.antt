use Rattle.std.proofs.Common.{arith}
use Rattle.ctl_sim.proofs.DataEnding.{unsent_more}
use Rattle.ctl_sim.proofs.data_serving.say_each.Goals as goal

pub loop-place-preserved : goal.loop-place-preserved
loop-place-preserved g c = record {
  few = let more = c.loop-place-test.true in omega (arith, more);
  says = unsent_more _ _ _ _ _ c.loop-place.invariant.says c.say_unsent.ensures;
}
