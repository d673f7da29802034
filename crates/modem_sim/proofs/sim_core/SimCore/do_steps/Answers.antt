use Rattle.std.proofs.Common.{◌∙◌}
use Rattle.modem_sim.proofs.ends.ScriptSteps.{none_after, passed_then, still_fewer}
use Rattle.modem_sim.specs.Acts.{is_step_act}
use Rattle.modem_sim.proofs.ends.OfferedPieces.{goes_then}
use Rattle.modem_sim.proofs.sim_core.SimCore.do_steps.Goals as goal

pub loop-done-preserved : goal.loop-done-preserved
loop-done-preserved c = record {
  goes = goes_then is_step_act c.args.self.now c.loop-done.self c.do_next.new.self c.loop-done.invariant.goes c.do_next.ensures.goes;
  passed = passed_then c.args.self.now c.loop-done.self c.do_next.new.self c.loop-done.invariant.passed c.do_next.ensures.passed;
  same = λ none. cc;
  fewer = λ _. still_fewer c.args.self.now c.loop-done.self c.do_next.new.self c.loop-done.done c.loop-done.invariant.same c.loop-done.invariant.fewer (c.in_ok-do_next.ensures.fewer c.if-branch.true);
  n1 = c.in_ok-do_next.ensures.n1 ∙ c.loop-done.invariant.n1;
}

pub returns-clause-none : goal.returns-clause-none
returns-clause-none c = none_after c.loop-done.self c.do_next.new.self (c.in_ok-do_next.ensures.same c.if-branch.false) (c.in_ok-do_next.ensures.none c.if-branch.false)

pub returns-clause-passed : goal.returns-clause-passed
returns-clause-passed c = passed_then c.args.self.now c.loop-done.self c.do_next.new.self c.loop-done.invariant.passed c.do_next.ensures.passed

pub returns-in_err-do_next-clause-passed : goal.returns-in_err-do_next-clause-passed
returns-in_err-do_next-clause-passed c = passed_then c.args.self.now c.loop-done.self c.do_next.new.self c.loop-done.invariant.passed c.do_next.ensures.passed
