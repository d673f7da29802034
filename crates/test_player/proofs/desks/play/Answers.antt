use Rattle.std.proofs.Common.{List, map, sym, subst}
use Rattle.modem_desk.specs.Ends.{DeskId, Place, place_of, subscription_of, IsWhole, AreSubscribed}
use Rattle.test_player.proofs.desks.play.Goals as goal

pub settle_all-requires-clause-callers : goal.settle_all-requires-clause-callers
settle_all-requires-clause-callers g c =
    subst (λ (x : DeskId × List Place). IsWhole x.0 x.1) (λ i. (sym c.fill.ensures.desk i, sym c.fill.ensures.places i)) c.in_ok-driver.ensures.callers

pub settle_all-requires-clause-listeners : goal.settle_all-requires-clause-listeners
settle_all-requires-clause-listeners g c =
    subst (λ (d : DeskId). AreSubscribed d (map subscription_of c.in_ok-driver.listeners.items)) (sym c.fill.ensures.desk) c.in_ok-driver.ensures.listeners
