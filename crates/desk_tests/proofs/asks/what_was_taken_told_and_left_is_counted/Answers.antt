use Rattle.std.proofs.Common.{◌≡◌, ◌∙◌, List, map, sym, subst}
use Rattle.modem_desk.specs.Ends.{DeskId, Place, place_of, IsWhole}
use Rattle.desk_tests.proofs.asks.what_was_taken_told_and_left_is_counted.Goals as goal

pub settle_by_two-left-requires-clause-callers : goal.settle_by_two-left-requires-clause-callers
settle_by_two-left-requires-clause-callers g c =
    let desk : c.tell_stopped-2.new.driver.desk ≡ c.in_ok-driver.driver.desk = c.tell_stopped-2.ensures ∙ c.tell_stopped.ensures ∙ c.take_requests.ensures in
    let places : map place_of c.taken_by-2.new.callers.items ≡ map place_of c.in_ok-driver.callers.items = c.taken_by-2.ensures ∙ c.taken_by.ensures ∙ c.submit_stops-2.ensures ∙ c.submit_stops.ensures in
    subst (λ (x : DeskId × List Place). IsWhole x.0 x.1) (λ i. (sym desk i, sym places i)) c.in_ok-driver.ensures.opened.whole
