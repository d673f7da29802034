-- The endpoint that is held is asked.
use Rattle.std.proofs.Common.{ℕ, ap, sym, subst, ◌≡◌, ◌∙◌}
use Rattle.std.specs.Prelude.{Option, Some, None}
use Rattle.modem_driver.specs.Endpoints.{EndpointState}
use Rattle.modem_c.specs.Calls.{HasWaited, HoldsSome, endpoint_of}
use Rattle.modem_c.proofs.time.cimbaloty_waiting_ticks.Goals as goal

-- of the endpoint that is held, by its connection's number
held_so : (o : Option EndpointState) (e : EndpointState) (d n : ℕ) (asked told : Option ℕ) → o ≡ Some e → d ≡ n → asked ≡ told → HasWaited e d asked → HoldsSome o (λ x. HasWaited x n told)
held_so o e d n asked told was number is waited =
    subst (λ (p : Option EndpointState). HoldsSome p (λ x. HasWaited x n told)) (sym was)
    (subst (λ (m : ℕ). HasWaited e m told) number (subst (λ (t : Option ℕ). HasWaited e d t) is waited))

pub returns-in-Some-waited-clause-value : goal.returns-in-Some-waited-clause-value
returns-in-Some-waited-clause-value c = λ _.
    held_so (endpoint_of c.args.c.now) c.deref.result.now c.in-Some.dlci.number c.args.dlci c.waiting_ticks-waited.result (Some c.in-Some-waited.waited) (c.in-Some-take.ensures.what ∙ ap Some (sym c.deref.ensures)) c.in-Some.ensures.number
    c.in-Some-waited.is c.waiting_ticks-waited.ensures

pub returns-in-None-clause-nothing : goal.returns-in-None-clause-nothing
returns-in-None-clause-nothing c = λ _.
    held_so (endpoint_of c.args.c.now) c.deref.result.now c.in-Some.dlci.number c.args.dlci c.waiting_ticks-waited.result None (c.in-Some-take.ensures.what ∙ ap Some (sym c.deref.ensures)) c.in-Some.ensures.number
    c.in-None.is c.waiting_ticks-waited.ensures
