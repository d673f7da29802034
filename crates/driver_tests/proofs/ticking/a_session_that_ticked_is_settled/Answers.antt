use Rattle.std.proofs.Common.{◌≡◌, ◌∙◌, List, map, sym, subst}
use Rattle.modem_desk.specs.Ends.{DeskId, Place, place_of, IsWhole}
use Rattle.driver_tests.proofs.ticking.a_session_that_ticked_is_settled.Goals as goal

pub settle-requires-clause-callers : goal.settle-requires-clause-callers
settle-requires-clause-callers g c =
    let places : map place_of c.taken_by.new.callers.items ≡ map place_of c.in_ok-driver.callers.items = c.taken_by.ensures ∙ c.submit_to.ensures in
    subst (λ (x : DeskId × List Place). IsWhole x.0 x.1) (λ i. (sym c.given_up-driver.ensures i, sym places i)) c.in_ok-driver.ensures.opened.whole
