use Rattle.std.proofs.Common.{subst}
use Rattle.std.specs.Prelude.{Ok}
use Rattle.modem_sim.specs.declared.sim.SimTurn.{SimTurn}
use Rattle.modem_sim.specs.Polls.{Turned}
use Rattle.ctl_sim.specs.Endless.{at_line}
use Rattle.ctl_sim.specs.HeldLine.{held_view}
use Rattle.ctl_sim.proofs.Endless.{lacks_by, sound_by}
use Rattle.ctl_sim.proofs.Muxes.{comes_to_rest}
use Rattle.ctl_sim.proofs.mux.turn.Goals as goal

pub returns-in-Ok-Moved-clause-moves : goal.returns-in-Ok-Moved-clause-moves
returns-in-Ok-Moved-clause-moves c = λ _.
    let e = c.in-Ok-Moved.ensures in
    let once : Turned held_view c.args.sim.now c.turn.new.self (Ok c.in-Ok-Moved.field-0) = record {
      goes = c.turn.ensures.goes;
      turn = e.turn;
      failed = e.failed;
      fails = e.fails;
      still = c.turn.ensures.still;
      over = e.over;
      memory = e.memory;
      others = e.others;
      sound = e.sound;
      failure = e.failure;
      ended = e.ended;
      goes_on = e.goes_on;
      end = c.turn.ensures.end;
    } in
    subst (λ (says : SimTurn). Turned held_view c.args.sim.now c.turn.new.self (Ok says)) c.in-Ok-Moved.field-0-is once

pub returns-then-none_waits-clause-rests : goal.returns-then-none_waits-clause-rests
returns-then-none_waits-clause-rests c = λ _.
    let none = c.none_waits.ensures.none c.if-none_waits.true in
    comes_to_rest c.args.sim.now c.turn.new.self (rw c.in-Ok-Idle.field-0-is at c.in-Ok-Idle.ensures.turn) none.0 none.1

pub returns-else-none_waits-clause-lacks : goal.returns-else-none_waits-clause-lacks
returns-else-none_waits-clause-lacks c = λ _.
    let e = c.in-Ok-Idle.ensures in
    let once : Turned held_view c.args.sim.now c.turn.new.self (Ok c.in-Ok-Idle.field-0) = record {
      goes = c.turn.ensures.goes;
      turn = e.turn;
      failed = e.failed;
      fails = e.fails;
      still = c.turn.ensures.still;
      over = e.over;
      memory = e.memory;
      others = e.others;
      sound = e.sound;
      failure = e.failure;
      ended = e.ended;
      goes_on = e.goes_on;
      end = c.turn.ensures.end;
    } in
    at_line (subst (λ (says : SimTurn). Turned held_view c.args.sim.now c.turn.new.self (Ok says)) c.in-Ok-Idle.field-0-is once) (c.none_waits.ensures.some c.if-none_waits.false)

pub returns-in-Err-clause-lacks : goal.returns-in-Err-clause-lacks
returns-in-Err-clause-lacks c =
    let e = c.in-Err.ensures in
    lacks_by c.args.sim.now c.turn.new.self c.in-Err.field-0 record {
      goes = c.turn.ensures.goes;
      turn = e.turn;
      failed = e.failed;
      fails = e.fails;
      still = c.turn.ensures.still;
      over = e.over;
      memory = e.memory;
      others = e.others;
      sound = e.sound;
      failure = e.failure;
      ended = e.ended;
      goes_on = e.goes_on;
      end = c.turn.ensures.end;
    }

pub returns-in-Err-clause-sound : goal.returns-in-Err-clause-sound
returns-in-Err-clause-sound c =
    let e = c.in-Err.ensures in
    sound_by c.args.sim.now c.turn.new.self c.in-Err.field-0 record {
      goes = c.turn.ensures.goes;
      turn = e.turn;
      failed = e.failed;
      fails = e.fails;
      still = c.turn.ensures.still;
      over = e.over;
      memory = e.memory;
      others = e.others;
      sound = e.sound;
      failure = e.failure;
      ended = e.ended;
      goes_on = e.goes_on;
      end = c.turn.ensures.end;
    }
