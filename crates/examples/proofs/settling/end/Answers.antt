-- The desk's end is the session's.
use Rattle.std.specs.Prelude.{List, map}
use Rattle.std.proofs.Common.{subst, sym}
use Rattle.modem_desk.specs.Ends.{CallerView, DriverView, IsWhole, place_of}
use Rattle.examples.proofs.settling.end.Goals as goal

pub settle-requires-clause-callers : goal.settle-requires-clause-callers
settle-requires-clause-callers g c =
    subst (λ (x : DriverView × List CallerView). IsWhole x.0.desk (map place_of x.1))
    (λ i. (sym c.finish-driver.ensures.same.1 i, sym c.in_ok-callers.ensures.items i)) c.requires
