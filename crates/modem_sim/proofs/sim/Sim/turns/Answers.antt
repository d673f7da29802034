-- One turn after the other.
use Rattle.std.proofs.Common.{◌≡◌, ◌∙◌, ℕ, arith, subst}
use Rattle.std.specs.Prelude.{Ok, Err, refl}
use Rattle.modem_sim.specs.declared.sim.SimTurn.{SimTurn}
use Rattle.modem_sim.specs.Polls.{MovesOn, Turned, moves_none, moves_once, goes_on, rests, ends, fails}
use Rattle.modem_sim.proofs.sims.SimPasts.{sim_none, sim_then}
use Rattle.modem_sim.proofs.sim.Sim.turns.Goals as goal

pub loop-init : goal.loop-init
loop-init g c = record { goes = sim_none g.L.SerialLine.seen c.args.self.now; moves = moves_none; beyond = refl; calls = omega arith }

pub loop-preserved : goal.loop-preserved
loop-preserved g c =
    let once : Turned g.L.SerialLine.seen c.loop.self c.turn.new.self (Ok c.in-Ok-Moved.field-0) = record {
      goes = c.turn.ensures.goes;
      turn = c.in-Ok-Moved.ensures.turn;
      failed = c.in-Ok-Moved.ensures.failed;
      fails = c.in-Ok-Moved.ensures.fails;
      still = c.turn.ensures.still;
      over = c.in-Ok-Moved.ensures.over;
      memory = c.in-Ok-Moved.ensures.memory;
      others = c.in-Ok-Moved.ensures.others;
      sound = c.in-Ok-Moved.ensures.sound;
      failure = c.in-Ok-Moved.ensures.failure;
      ended = c.in-Ok-Moved.ensures.ended;
      goes_on = c.in-Ok-Moved.ensures.goes_on;
      end = c.turn.ensures.end;
    } in
    let Says : SimTurn → Type 0 = λ says. Turned g.L.SerialLine.seen c.loop.self c.turn.new.self (Ok says) in
    let one = c.turn.ensures.bounded in
    let before = c.loop.invariant.calls in
    record {
      goes = sim_then g.L.SerialLine.seen c.args.self.now c.loop.self c.turn.new.self c.loop.invariant.goes c.turn.ensures.goes;
      moves = moves_once c.loop.counter c.loop.self c.turn.new.self c.loop.invariant.moves (subst Says c.in-Ok-Moved.field-0-is once);
      beyond = c.turn.ensures.beyond ∙ c.loop.invariant.beyond;
      calls = omega (arith, one, before);
    }

pub returns-in-Ok-Idle-clause-goes : goal.returns-in-Ok-Idle-clause-goes
returns-in-Ok-Idle-clause-goes g c =
    sim_then g.L.SerialLine.seen c.args.self.now c.loop.self c.turn.new.self c.loop.invariant.goes c.turn.ensures.goes

pub returns-in-Ok-Idle-clause-runs : goal.returns-in-Ok-Idle-clause-runs
returns-in-Ok-Idle-clause-runs g c =
    let once : Turned g.L.SerialLine.seen c.loop.self c.turn.new.self (Ok c.in-Ok-Idle.field-0) = record {
      goes = c.turn.ensures.goes;
      turn = c.in-Ok-Idle.ensures.turn;
      failed = c.in-Ok-Idle.ensures.failed;
      fails = c.in-Ok-Idle.ensures.fails;
      still = c.turn.ensures.still;
      over = c.in-Ok-Idle.ensures.over;
      memory = c.in-Ok-Idle.ensures.memory;
      others = c.in-Ok-Idle.ensures.others;
      sound = c.in-Ok-Idle.ensures.sound;
      failure = c.in-Ok-Idle.ensures.failure;
      ended = c.in-Ok-Idle.ensures.ended;
      goes_on = c.in-Ok-Idle.ensures.goes_on;
      end = c.turn.ensures.end;
    } in
    let Says : SimTurn → Type 0 = λ says. Turned g.L.SerialLine.seen c.loop.self c.turn.new.self (Ok says) in
    let last = c.loop-test.true in
    rests c.loop.counter c.loop.self (omega (arith, last)) c.loop.invariant.moves (subst Says c.in-Ok-Idle.field-0-is once)

pub returns-in-Ok-Ended-clause-goes : goal.returns-in-Ok-Ended-clause-goes
returns-in-Ok-Ended-clause-goes g c =
    sim_then g.L.SerialLine.seen c.args.self.now c.loop.self c.turn.new.self c.loop.invariant.goes c.turn.ensures.goes

pub returns-in-Ok-Ended-clause-runs : goal.returns-in-Ok-Ended-clause-runs
returns-in-Ok-Ended-clause-runs g c =
    let once : Turned g.L.SerialLine.seen c.loop.self c.turn.new.self (Ok c.in-Ok-Ended.field-0) = record {
      goes = c.turn.ensures.goes;
      turn = c.in-Ok-Ended.ensures.turn;
      failed = c.in-Ok-Ended.ensures.failed;
      fails = c.in-Ok-Ended.ensures.fails;
      still = c.turn.ensures.still;
      over = c.in-Ok-Ended.ensures.over;
      memory = c.in-Ok-Ended.ensures.memory;
      others = c.in-Ok-Ended.ensures.others;
      sound = c.in-Ok-Ended.ensures.sound;
      failure = c.in-Ok-Ended.ensures.failure;
      ended = c.in-Ok-Ended.ensures.ended;
      goes_on = c.in-Ok-Ended.ensures.goes_on;
      end = c.turn.ensures.end;
    } in
    let Says : SimTurn → Type 0 = λ says. Turned g.L.SerialLine.seen c.loop.self c.turn.new.self (Ok says) in
    let last = c.loop-test.true in
    ends c.loop.counter c.loop.self (omega (arith, last)) c.loop.invariant.moves (subst Says c.in-Ok-Ended.field-0-is once)

pub returns-in-Err-clause-goes : goal.returns-in-Err-clause-goes
returns-in-Err-clause-goes g c =
    sim_then g.L.SerialLine.seen c.args.self.now c.loop.self c.turn.new.self c.loop.invariant.goes c.turn.ensures.goes

pub returns-in-Err-clause-runs : goal.returns-in-Err-clause-runs
returns-in-Err-clause-runs g c =
    let once : Turned g.L.SerialLine.seen c.loop.self c.turn.new.self (Err c.in-Err.why) = record {
      goes = c.turn.ensures.goes;
      turn = c.in-Err.ensures.turn;
      failed = c.in-Err.ensures.failed;
      fails = c.in-Err.ensures.fails;
      still = c.turn.ensures.still;
      over = c.in-Err.ensures.over;
      memory = c.in-Err.ensures.memory;
      others = c.in-Err.ensures.others;
      sound = c.in-Err.ensures.sound;
      failure = c.in-Err.ensures.failure;
      ended = c.in-Err.ensures.ended;
      goes_on = c.in-Err.ensures.goes_on;
      end = c.turn.ensures.end;
    } in
    let last = c.loop-test.true in
    fails c.loop.counter c.loop.self c.in-Err.why (omega (arith, last)) c.loop.invariant.moves once

pub returns-clause-goes : goal.returns-clause-goes
returns-clause-goes g c = c.loop.invariant.goes

pub returns-clause-runs : goal.returns-clause-runs
returns-clause-runs g c =
    let At : ℕ → Type 0 = λ n. MovesOn g.L.SerialLine.seen c.args.self.now n c.loop.self in
    let last = c.loop-test.false in
    let all : c.loop.counter ≡ 64 = omega arith in
    goes_on (subst At all c.loop.invariant.moves)
