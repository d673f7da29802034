-- Each is offered in its turn.
use Rattle.std.proofs.Common.{ap, ◌∙◌, ◌+◌, ◌-◌, ◌≡◌, ◌++◌, arith, length, refl, take, drop}
use Rattle.std.proofs.lemmas.List.{length-append}
use Rattle.modem_core.specs.WaitingLists.{WaitingLists}
use Rattle.modem_core.proofs.sessions.steps.FirstOffers.{none_held}
use Rattle.modem_core.proofs.sessions.steps.ListenerOffers.{announces_first, announces_more, announces_last, announces_early}
use Rattle.modem_core.proofs.waiting.Waiting.place_each_line.Goals as goal

pub loop-place-init : goal.loop-place-init
loop-place-init c = record { so = announces_first c.args.driver.now _ c.args.self.now.lines c.many-many.result (none_held 263) c.many-many.ensures; outcomes = refl }

pub loop-place-preserved : goal.loop-place-preserved
loop-place-preserved c =
    let e = c.offer_line-moved.ensures in
    let i = c.loop-place.invariant in
    record {
      so =
          announces_more c.args.driver.now c.loop-place.driver c.offer_line-moved.new.driver c.loop-place.held_up c.offer_line-moved.new.held_up c.args.self.now.lines c.loop-place.self.lines
          c.offer_line-moved.new.self.lines c.loop-place.place c.many-many.result c.offer_line-moved.result c.loop-place.moved c.loop-place-test.true e.offers e.alone i.so;
      outcomes = e.outcomes ∙ i.outcomes;
    }

pub returns-clause-placed : goal.returns-clause-placed
returns-clause-placed c =
    let over = c.loop-place-test.false in
    announces_last c.args.driver.now c.loop-place.driver c.loop-place.held_up c.args.self.now.lines c.loop-place.self.lines _ c.loop-place.moved (omega arith) c.loop-place.invariant.so

pub rotate_left-requires : goal.rotate_left-requires
rotate_left-requires c =
    let e = c.offer_line-moved.ensures in
    let i = c.loop-place.invariant in
    let so =
    announces_more c.args.driver.now c.loop-place.driver c.offer_line-moved.new.driver c.loop-place.held_up c.offer_line-moved.new.held_up c.args.self.now.lines c.loop-place.self.lines
    c.offer_line-moved.new.self.lines c.loop-place.place c.many-many.result c.offer_line-moved.result c.loop-place.moved c.loop-place-test.true e.offers e.alone i.so in
    let long = ap length so.fewer.are ∙ length-append so.fewer.waits so.fewer.stay in
    let left = so.fewer.left_are in
    let same = ap (λ (w : WaitingLists). length w.lines) c.self.view_is in
    omega (arith, long, left, same)

pub returns-then-not-may_offer-clause-placed : goal.returns-then-not-may_offer-clause-placed
returns-then-not-may_offer-clause-placed c =
    let e = c.offer_line-moved.ensures in
    let i = c.loop-place.invariant in
    let so =
    announces_more c.args.driver.now c.loop-place.driver c.offer_line-moved.new.driver c.loop-place.held_up c.offer_line-moved.new.held_up c.args.self.now.lines c.loop-place.self.lines
    c.offer_line-moved.new.self.lines c.loop-place.place c.many-many.result c.offer_line-moved.result c.loop-place.moved c.loop-place-test.true e.offers e.alone i.so in
    let left = c.many-many.result - (c.loop-place.place + 1) in
    let turned : c.rotate_left.new.self.items ≡ drop left c.offer_line-moved.new.self.lines ++ take left c.offer_line-moved.new.self.lines =
    c.rotate_left.ensures.items ∙ ap (λ (w : WaitingLists). drop left w.lines ++ take left w.lines) c.self.view_is in
    announces_early c.args.driver.now c.offer_line-moved.new.driver c.offer_line-moved.new.held_up c.args.self.now.lines c.offer_line-moved.new.self.lines c.rotate_left.new.self.items left _ so
    (c.may_offer.ensures c.if-not-may_offer.true) turned
