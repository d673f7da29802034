-- Each is offered in its turn.
use Rattle.std.proofs.Common.{◌∙◌, arith, refl}
use Rattle.modem_core.proofs.sessions.steps.FirstOffers.{none_held}
use Rattle.modem_core.proofs.sessions.steps.CallerOffers.{tells_first, tells_more, tells_last}
use Rattle.modem_core.proofs.waiting.Waiting.place_each_outcome.Goals as goal

pub loop-place-init : goal.loop-place-init
loop-place-init c = record { so = tells_first c.args.driver.now _ c.args.self.now.outcomes c.count-place-end.result (none_held 256) c.count-place-end.ensures; lines = refl }

pub loop-place-preserved : goal.loop-place-preserved
loop-place-preserved c =
    let e = c.offer_outcome-moved.ensures in
    let i = c.loop-place.invariant in
    record {
      so =
          tells_more c.args.driver.now c.loop-place.driver c.offer_outcome-moved.new.driver c.loop-place.held_up c.offer_outcome-moved.new.held_up c.args.self.now.outcomes c.loop-place.self.outcomes
          c.offer_outcome-moved.new.self.outcomes c.loop-place._place c.count-place-end.result c.offer_outcome-moved.result c.loop-place.moved c.loop-place-test.true e.offers e.alone i.so;
      lines = e.lines ∙ i.lines;
    }

pub returns-clause-placed : goal.returns-clause-placed
returns-clause-placed c =
    let over = c.loop-place-test.false in
    tells_last c.args.driver.now c.loop-place.driver c.loop-place.held_up c.args.self.now.outcomes c.loop-place.self.outcomes _ c.loop-place.moved (omega arith) c.loop-place.invariant.so
