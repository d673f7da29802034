-- Each of the two goes on by its own acts; what is carried is in no history.
use Rattle.std.proofs.Common.{◌≡◌, ◌∙◌}
use Rattle.std.specs.Prelude.{refl}
use Rattle.serial_line.specs.CutLine.{CutState, after_carry}
use Rattle.modem_driver.specs.SessionStates.{SessionState}
use Rattle.modem_sim.specs.Sims.{SimState}
use Rattle.modem_bench.specs.Rounds.{pair}
use Rattle.modem_bench.proofs.JointLists.{joins_carried_so, joins_far, joins_near, joins_then, moved_so}
use Rattle.modem_bench.proofs.OneLine.{carried_goes_so, far_goes, near_goes, stays_then}
use Rattle.modem_bench.proofs.rounds.round.Goals as goal

pub returns-clause-joins : goal.returns-clause-joins
returns-clause-joins g c =
    let old = c.args.session.now in
    let sim = c.args.sim.now in
    let polled : SessionState CutState = c.advance-near.new.self in
    let near : SessionState CutState = record polled { line = c.carry-carried.new.self } in
    let far : SimState CutState = record sim { line = c.carry-carried.new.other } in
    let last : SimState CutState = c.turns-far.new.sim in
    joins_then (pair old sim) (pair polled sim) (pair near last) (joins_near old polled sim c.advance-near.ensures.goes)
    (joins_then (pair polled sim) (pair near far) (pair near last)
    (joins_carried_so c.args.cut polled sim c.line_mut.result.now c.line_mut-2.result.now c.carry-carried.new.self c.carry-carried.new.other c.line_mut.ensures.value c.line_mut-2.ensures.value c.carry-carried.ensures.here c.carry-carried.ensures.there)
    (joins_far near far last c.turns-far.ensures.goes))

pub returns-clause-one_line : goal.returns-clause-one_line
returns-clause-one_line g c =
    let old = c.args.session.now in
    let sim = c.args.sim.now in
    let polled : SessionState CutState = c.advance-near.new.self in
    let near : SessionState CutState = record polled { line = c.carry-carried.new.self } in
    let far : SimState CutState = record sim { line = c.carry-carried.new.other } in
    let last : SimState CutState = c.turns-far.new.sim in
    stays_then (pair old sim) (pair polled sim) (pair near last)
    (near_goes old polled sim c.advance-near.ensures.goes c.advance-near.ensures.takes c.advance-near.ensures.beyond c.far_octets.ensures.sent c.far_octets.ensures.unwritten)
    (stays_then (pair polled sim) (pair near far) (pair near last)
    (carried_goes_so c.args.cut polled sim c.line_mut.result.now c.line_mut-2.result.now c.carry-carried.new.self c.carry-carried.new.other c.line_mut.ensures.value c.line_mut-2.ensures.value c.carry-carried.ensures.here c.carry-carried.ensures.there)
    (far_goes near far last c.turns-far.ensures.goes c.turns-far.ensures.beyond c.near_octets.ensures.sent c.near_octets.ensures.unwritten))

pub returns-clause-round : goal.returns-clause-round
returns-clause-round g c =
    let cut = c.args.cut in
    let sim = c.args.sim.now in
    let polled : SessionState CutState = c.advance-near.new.self in
    let one : c.carry-carried.new.self ≡ after_carry cut polled.line sim.line = c.carry-carried.ensures.here ∙ (λ i. after_carry cut (c.line_mut.ensures.value i) (c.line_mut-2.ensures.value i)) in
    let two : c.carry-carried.new.other ≡ after_carry cut sim.line polled.line = c.carry-carried.ensures.there ∙ (λ i. after_carry cut (c.line_mut-2.ensures.value i) (c.line_mut.ensures.value i)) in
    record {
      polled = polled;
      polls = c.advance-near.ensures.polls;
      mid = pair (record polled { line = c.carry-carried.new.self }) (record sim { line = c.carry-carried.new.other });
      carries = λ i. pair (record polled { line = one i }) (record sim { line = two i });
      stays = refl;
      runs = c.turns-far.ensures.runs;
      moved_is = moved_so cut c.carry-carried.result c.far_sent-before.result c.far_sent.result polled.line sim.line c.turns-far.new.sim.line c.line_mut.result.now c.line_mut-2.result.now c.line_mut.ensures.value c.line_mut-2.ensures.value c.carry-carried.ensures.value c.far_sent-before.ensures c.far_sent.ensures;
    }
