-- Of no octets none is taken.
use Rattle.std.proofs.Common.{◌≡◌, ℕ, [], take, subst, arith}
use Rattle.modem_driver.specs.Endpoints.{TakesOctets}
use Rattle.modem_c.proofs.GivenParts.{says_of_frames}
use Rattle.modem_c.proofs.octets.handle_waiting.Goals as goal

pub returns-clause-takes : goal.returns-clause-takes
returns-clause-takes c l d =
    let few = c.handle_input.ensures.few in
    let none : c.handle_input.result.taken ≡ 0 = omega (arith, few) in
    subst (λ (n : ℕ). TakesOctets l d c.args.endpoint.now c.handle_input.new.self (take n []) c.handle_input.result.blocked) none
    (c.handle_input.ensures.takes l d)

pub returns-clause-says : goal.returns-clause-says
returns-clause-says c = says_of_frames c.handle_input.new.self _ c.handle_input.result.blocked c.handle_input.ensures.says

pub returns-then-is_quiet-clause-takes : goal.returns-then-is_quiet-clause-takes
returns-then-is_quiet-clause-takes c = c.is_quiet.ensures.takes c.if-is_quiet.true

pub returns-then-is_quiet-clause-says : goal.returns-then-is_quiet-clause-says
returns-then-is_quiet-clause-says c = (tt, c.is_quiet.ensures.none c.if-is_quiet.true)
