use Rattle.std.proofs.Common.{◌≡◌, ◌∙◌, List, map, sym, subst}
use Rattle.modem_desk.specs.Ends.{DeskId, Place, place_of, subscription_of, IsWhole, AreSubscribed}
use Rattle.desk_tests.proofs.asks.what_memory_held_up_is_settled_by_a_second_call.Goals as goal

pub settle_by_two-left-requires-clause-callers : goal.settle_by_two-left-requires-clause-callers
settle_by_two-left-requires-clause-callers g c =
    let desk : c.tell_stopped.new.driver.desk ≡ c.in-Ok.driver.desk = c.tell_stopped.ensures ∙ c.take_requests.ensures in
    let places : map place_of c.submit_stops.new.callers.items ≡ map place_of c.in-Ok.callers.items = c.submit_stops.ensures in
    subst (λ (x : DeskId × List Place). IsWhole x.0 x.1) (λ i. (sym desk i, sym places i)) c.in-Ok.ensures.opened.whole

pub settle_by_two-left-requires-clause-listeners : goal.settle_by_two-left-requires-clause-listeners
settle_by_two-left-requires-clause-listeners g c =
    subst (λ (d : DeskId). AreSubscribed d (map subscription_of c.in-Ok.listeners.items)) (sym (c.tell_stopped.ensures ∙ c.take_requests.ensures)) c.in-Ok.ensures.opened.subscribed
