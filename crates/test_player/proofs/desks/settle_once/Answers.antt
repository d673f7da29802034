use Rattle.std.proofs.Common.{map, sym, subst}
use Rattle.std.specs.declared.vec.Vec.{Vec}
use Rattle.std.specs.declared.alloc.Global.{Global}
use Rattle.modem_desk.specs.Ends.{CallerView, ListenerView, DriverView, place_of, subscription_of, IsWhole, AreSubscribed}
use Rattle.test_player.proofs.desks.settle_once.Goals as goal

pub returns-in-Err-clause-callers : goal.returns-in-Err-clause-callers
returns-in-Err-clause-callers g c =
    let e = c.in-Err.ensures.refused in
    subst (λ (x : DriverView × Vec CallerView Global). IsWhole x.0.desk (map place_of x.1.items)) (λ i. (sym e.1 i, sym e.2 i)) c.requires.callers

pub returns-in-Err-clause-listeners : goal.returns-in-Err-clause-listeners
returns-in-Err-clause-listeners g c =
    let e = c.in-Err.ensures.refused in
    subst (λ (x : DriverView × Vec ListenerView Global). AreSubscribed x.0.desk (map subscription_of x.1.items)) (λ i. (sym e.1 i, sym e.3 i)) c.requires.listeners
