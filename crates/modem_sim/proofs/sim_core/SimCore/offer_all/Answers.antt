use Rattle.std.proofs.Common.{arith}
use Rattle.modem_sim.specs.Acts.{is_handing}
use Rattle.modem_sim.proofs.ends.HandedOctets.{hands_all, hands_more, hands_none}
use Rattle.modem_sim.proofs.ends.OfferedPieces.{goes_then}
use Rattle.modem_sim.proofs.sim_core.SimCore.offer_all.Goals as goal

pub returns-in_err-offered-clause-goes : goal.returns-in_err-offered-clause-goes
returns-in_err-offered-clause-goes c = goes_then is_handing c.args.self.now c.loop-number.self c.offer_on.new.self c.loop-number.invariant.goes c.offer_on.ensures.goes

pub loop-number-preserved : goal.loop-number-preserved
loop-number-preserved c =
    hands_more c.args.self.now c.loop-number.self c.offer_on.new.self c.loop-number.moved c.in_ok-offered.offered c.loop-number.number (let last = c.loop-number-test.true in omega (arith, last)) c.loop-number.invariant
    c.offer_on.ensures.goes c.in_ok-offered.ensures.hands c.offer_on.ensures.others c.in_ok-offered.ensures.same c.in_ok-offered.ensures.none c.in_ok-offered.ensures.steps c.in_ok-offered.ensures.n1

pub loop-number-init : goal.loop-number-init
loop-number-init c = hands_none c.args.self.now

pub returns-clause-hands : goal.returns-clause-hands
returns-clause-hands c = hands_all c.args.self.now c.loop-number.self c.loop-number.moved c.loop-number.number (let last = c.loop-number-test.false in omega (arith, last)) c.loop-number.invariant
