-- The session has the driver's end of the crew's desk.
use Rattle.std.specs.Prelude.{◌≡◌, List, [], ◌∷◌, IfOk, map}
use Rattle.std.proofs.Common.{subst, sym}
use Rattle.modem_desk.specs.Ends.{CallerView, DriverView, IsWhole, place_of}
use Rattle.examples.proofs.session.run_with.Goals as goal

pub run_beside-requires-after_bounds : goal.run_beside-requires-after_bounds
run_beside-requires-after_bounds g c κs within =
    let begun = subst (λ (r : _). IfOk r (λ s. s.0.driver ≡ c.in_ok-driver.driver)) c.in_ok-session.ensures.made c.begin.ensures in
    let kept = sym c.in_ok-session.ensures.kept in
    subst (λ (x : DriverView × List CallerView). IsWhole x.0.desk (map place_of x.1))
    (λ i. (sym begun i, (kept i).callers.0 ∷ (kept i).callers.1 ∷ [])) c.in_ok-driver.ensures
