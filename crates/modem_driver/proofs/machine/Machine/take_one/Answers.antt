-- The desk isn't asked, or has none, or its next is taken.
use Rattle.std.proofs.Common.{sym, ◌∙◌, subst, leb-true}
use Rattle.modem_desk.specs.Ends.{DriverView}
use Rattle.modem_driver.specs.TurnSteps.{turn_state, TakesOne}
use Rattle.modem_driver.proofs.sessions.steps.NextRequest.{full_asks_none, finding_gives_none, not_full, none_to_take}
use Rattle.modem_driver.proofs.machine.Machine.take_one.Goals as goal

pub returns-then-is_full : goal.returns-then-is_full
returns-then-is_full g c = λ l. full_asks_none l c.args.driver.now c.args.self.now (leb-true 128 _ (sym c.is_full.ensures ∙ c.if-is_full.true))

pub returns-then-finds_none : goal.returns-then-finds_none
returns-then-finds_none g c = λ l. none_to_take l c.args.driver.now c.finds_none.new.self c.args.self.now (finding_gives_none c.args.driver.now c.finds_none.new.self c.finds_none.ensures.same (c.finds_none.ensures.counted c.if-finds_none.true) c.numbers.ensures)

pub take_next-requires : goal.take_next-requires
take_next-requires g c = not_full _ (sym c.is_full.ensures ∙ c.if-is_full.false)

pub returns : goal.returns
returns g c = λ l.
    subst (λ (d : DriverView). TakesOne (turn_state l d c.args.self.now) (turn_state l c.take_next.new.driver c.take_next.new.self) c.take_next.result) (c.finds_none.ensures.not_counted c.if-finds_none.false) (c.take_next.ensures l)
