-- The session has the driver's end that it was given.
use Rattle.std.specs.Prelude.{◌≡◌, IfOk}
use Rattle.std.proofs.Common.{subst, ◌∙◌}
use Rattle.examples.proofs.session.begin.Goals as goal

pub returns : goal.returns
returns g c =
    let made = subst (λ (r : _). IfOk r (λ s. s.driver ≡ c.in_ok-modem.driver)) c.in_ok-session.ensures.made c.session_on.ensures in
    made ∙ c.in_ok-modem.ensures.kept
