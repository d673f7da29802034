-- One turn after the other.
use Rattle.std.proofs.Common.{◌≡◌, ◌∙◌, ℕ, arith, subst, sym}
use Rattle.std.specs.Prelude.{refl}
use Rattle.modem_driver.specs.SessionTurns.{TakesTurn, turn_answer, fault_of}
use Rattle.modem_driver.specs.Polls.{MovesOn, moves_none, moves_once, goes_on, ends, rests, fails}
use Rattle.modem_driver.proofs.sessions.polls.Polls.{fault_goes, goes_none, goes_then, moved_is, turn_goes}
use Rattle.modem_driver.proofs.sessions.steps.TakenRequests.{takes_none, takes_then}
use Rattle.modem_driver.proofs.session.Session.turns.Goals as goal

pub loop-init : goal.loop-init
loop-init g c =
    let look = g.L.SerialLine.seen in
    record { goes = goes_none look c.args.self.now; moves = moves_none; takes = takes_none c.args.self.now.driver; beyond = refl; calls = omega arith }

pub loop-preserved : goal.loop-preserved
loop-preserved g c =
    let look = g.L.SerialLine.seen in
    let turned = c.in-Ok.ensures.turned in
    let one = turned.calls in
    let before = c.loop.invariant.calls in
    let says = turn_answer c.in-Ok.says in
    record {
      goes = goes_then look c.args.self.now c.loop.self c.turn.new.self c.loop.invariant.goes (turn_goes look c.loop.self c.turn.new.self says c.in-Ok.ensures.turns turned);
      moves = moves_once c.loop.counter c.loop.self c.turn.new.self c.loop.invariant.moves (record {
        going = sym c.has_ended.ensures ∙ c.if-has_ended.false;
        turn = subst (TakesTurn look c.loop.self c.turn.new.self) (moved_is says (sym c.is_moved.ensures ∙ c.if-not-is_moved.false)) c.in-Ok.ensures.turns;
        turned = turned;
        takes = c.in-Ok.ensures.takes;
      });
      takes = takes_then c.args.self.now.driver c.loop.self.driver c.turn.new.self.driver c.loop.invariant.takes c.in-Ok.ensures.takes;
      beyond = c.turn.ensures.beyond ∙ c.loop.invariant.beyond;
      calls = omega (arith, one, before);
    }

pub returns-then-has_ended-clause-runs : goal.returns-then-has_ended-clause-runs
returns-then-has_ended-clause-runs g c =
    let last = c.loop-test.true in
    ends c.loop.counter (omega (arith, last)) c.loop.invariant.moves (sym c.has_ended.ensures ∙ c.if-has_ended.true)

pub returns-then-not-is_moved-clause-runs : goal.returns-then-not-is_moved-clause-runs
returns-then-not-is_moved-clause-runs g c =
    let last = c.loop-test.true in
    rests c.loop.counter c.loop.self (turn_answer c.in-Ok.says) (omega (arith, last)) c.loop.invariant.moves (record {
      going = sym c.has_ended.ensures ∙ c.if-has_ended.false;
      turn = c.in-Ok.ensures.turns;
      turned = c.in-Ok.ensures.turned;
      takes = c.in-Ok.ensures.takes;
    })
    (sym c.is_moved.ensures ∙ c.if-not-is_moved.true)

pub returns-then-not-is_moved-clause-goes : goal.returns-then-not-is_moved-clause-goes
returns-then-not-is_moved-clause-goes g c =
    let look = g.L.SerialLine.seen in
    goes_then look c.args.self.now c.loop.self c.turn.new.self c.loop.invariant.goes (turn_goes look c.loop.self c.turn.new.self (turn_answer c.in-Ok.says) c.in-Ok.ensures.turns c.in-Ok.ensures.turned)

pub returns-in-Err-clause-runs : goal.returns-in-Err-clause-runs
returns-in-Err-clause-runs g c =
    let last = c.loop-test.true in
    fails c.loop.counter c.loop.self c.in-Err.why (omega (arith, last)) c.loop.invariant.moves (record {
      going = sym c.has_ended.ensures ∙ c.if-has_ended.false;
      fault = c.in-Err.ensures.faults;
      turned = c.in-Err.ensures.turned;
      takes = c.in-Err.ensures.takes;
      lost = c.in-Err.ensures.lost;
    })

pub returns-in-Err-clause-goes : goal.returns-in-Err-clause-goes
returns-in-Err-clause-goes g c =
    let look = g.L.SerialLine.seen in
    goes_then look c.args.self.now c.loop.self c.turn.new.self c.loop.invariant.goes (fault_goes look c.loop.self c.turn.new.self (fault_of c.in-Err.why) c.in-Err.ensures.faults c.in-Err.ensures.turned)

pub returns-clause-runs : goal.returns-clause-runs
returns-clause-runs g c =
    let look = g.L.SerialLine.seen in
    let At : ℕ → Type 0 = λ n. MovesOn look c.args.self.now n c.loop.self in
    let last = c.loop-test.false in
    let all : c.loop.counter ≡ 64 = omega arith in
    goes_on (subst At all c.loop.invariant.moves)

pub returns-in-Err-clause-takes : goal.returns-in-Err-clause-takes
returns-in-Err-clause-takes g c = takes_then c.args.self.now.driver c.loop.self.driver c.turn.new.self.driver c.loop.invariant.takes c.in-Err.ensures.takes

pub returns-then-not-is_moved-clause-takes : goal.returns-then-not-is_moved-clause-takes
returns-then-not-is_moved-clause-takes g c = takes_then c.args.self.now.driver c.loop.self.driver c.turn.new.self.driver c.loop.invariant.takes c.in-Ok.ensures.takes
