use Rattle.std.proofs.Common.{arith, refl, ◌∙◌, ◌≡◌, ◌-◌, ◌^◌}
use Rattle.modem_sim.proofs.sims.SimPasts.{sim_none, sim_then}
use Rattle.ctl_sim.specs.declared.fault.ServeFault.{ServeFault}
use Rattle.ctl_sim.specs.Endless.{IsGivenUpFor}
use Rattle.ctl_sim.specs.HeldLine.{held_view}
use Rattle.ctl_sim.proofs.Endless.{endless_then, lacks_then, moves_more, moves_not}
use Rattle.ctl_sim.proofs.Leaving.{given_so}
use Rattle.ctl_sim.proofs.Muxes.{rests_then}
use Rattle.ctl_sim.proofs.mux.settle.Goals as goal

pub returns-in_err-turn-clause-goes : goal.returns-in_err-turn-clause-goes
returns-in_err-turn-clause-goes c = sim_then held_view c.args.sim.now c.loop.sim c.turn.new.sim c.loop.invariant.goes c.turn.ensures.goes

pub returns-in_err-turn-clause-fault : goal.returns-in_err-turn-clause-fault
returns-in_err-turn-clause-fault c =
    let last = c.loop-test.true in
    given_so (λ (f : ServeFault). IsGivenUpFor f c.args.sim.now c.turn.new.sim) _ ServeFault.NoMemory c.from_residual.ensures.1
    (lacks_then c.loop.counter c.args.sim.now c.loop.sim c.turn.new.sim (omega (arith, last)) c.loop.invariant.moves c.loop.invariant.sound c.in_err-turn.ensures.lacks)

pub returns-in-Rests-clause-goes : goal.returns-in-Rests-clause-goes
returns-in-Rests-clause-goes c = sim_then held_view c.args.sim.now c.loop.sim c.turn.new.sim c.loop.invariant.goes c.turn.ensures.goes

pub returns-in-Rests-clause-rests : goal.returns-in-Rests-clause-rests
returns-in-Rests-clause-rests c = λ _. rests_then c.args.sim.now c.loop.sim c.turn.new.sim c.loop.invariant.goes (c.in_ok-turn.ensures.rests c.in-Rests.is)

pub returns-in-Ends-clause-goes : goal.returns-in-Ends-clause-goes
returns-in-Ends-clause-goes c = sim_then held_view c.args.sim.now c.loop.sim c.turn.new.sim c.loop.invariant.goes c.turn.ensures.goes

pub returns-clause-fault : goal.returns-clause-fault
returns-clause-fault c =
    let last = c.loop-test.false in
    let all : c.loop.counter ≡ 2 ^ 64 - 1 = omega arith in
    endless_then c.loop.counter c.args.sim.now c.loop.sim all c.loop.invariant.moves

pub loop-init : goal.loop-init
loop-init c = record { goes = sim_none held_view c.args.sim.now; side = refl; sound = refl; moves = moves_not c.args.sim.now }

pub loop-preserved : goal.loop-preserved
loop-preserved c = record {
  goes = sim_then held_view c.args.sim.now c.loop.sim c.turn.new.sim c.loop.invariant.goes c.turn.ensures.goes;
  side = c.turn.ensures.side ∙ c.loop.invariant.side;
  sound = c.turn.ensures.sound ∙ c.loop.invariant.sound;
  moves = moves_more c.loop.counter c.args.sim.now c.loop.sim c.turn.new.sim c.loop.invariant.moves (c.in_ok-turn.ensures.moves c.in-Moves.is) c.turn.ensures.side;
}
