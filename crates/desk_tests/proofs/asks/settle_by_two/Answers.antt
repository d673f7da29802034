use Rattle.std.proofs.Common.{map, sym, subst}
use Rattle.std.specs.declared.vec.Vec.{Vec}
use Rattle.std.specs.declared.alloc.Global.{Global}
use Rattle.modem_desk.specs.Ends.{CallerView, ListenerView, DriverView, place_of, subscription_of, IsWhole, AreSubscribed}
use Rattle.desk_tests.proofs.asks.settle_by_two.Goals as goal

pub settle-requires-2-clause-callers : goal.settle-requires-2-clause-callers
settle-requires-2-clause-callers g c =
    let e = c.in-Err.ensures.refused in
    subst (λ (x : DriverView × Vec CallerView Global). IsWhole x.0.desk (map place_of x.1.items)) (λ i. (sym e.1 i, sym e.2 i)) c.requires.callers

pub settle-requires-2-clause-listeners : goal.settle-requires-2-clause-listeners
settle-requires-2-clause-listeners g c =
    let e = c.in-Err.ensures.refused in
    subst (λ (x : DriverView × Vec ListenerView Global). AreSubscribed x.0.desk (map subscription_of x.1.items)) (λ i. (sym e.1 i, sym e.3 i)) c.requires.listeners
