-- What was made of the dialect is what the driver holds.
use Rattle.std.specs.Prelude.{◌≡◌, ℕ, Option}
use Rattle.std.proofs.Common.{subst, sym}
use Rattle.at_text.specs.Rules.{dialect_of}
use Rattle.modem_driver.specs.Endpoints.{BeginsBy, EndpointState, endpoint_by}
use Rattle.modem_c.specs.Calls.{HoldsSome}
use Rattle.modem_c.specs.DialectCalls.{Has}
use Rattle.modem_c.specs.Numbers.{kinds_of_sets}
use Rattle.modem_c.proofs.making.cimbaloty_new_with_dialect.Goals as goal

pub returns-in-Some-make_by-clause-made : goal.returns-in-Some-make_by-clause-made
returns-in-Some-make_by-clause-made c ok =
    let kinds = kinds_of_sets c.args.kinds c.args.own in
    subst (λ (x : Option EndpointState × ℕ). Has c.args.d.now (λ r. HoldsSome x.0 (λ e. e ≡ endpoint_by r x.1 kinds c.args.first)))
    (λ i. (sym c.of.ensures i, c.in-Some.ensures.octets i)) c.in-Some-make_by.ensures.made

pub returns-in-Some-make_by-clause-begins : goal.returns-in-Some-make_by-clause-begins
returns-in-Some-make_by-clause-begins c ok =
    let kinds = kinds_of_sets c.args.kinds c.args.own in
    subst (λ (x : Option EndpointState × ℕ). Has c.args.d.now (λ r. HoldsSome x.0 (BeginsBy (dialect_of r) x.1 kinds)))
    (λ i. (sym c.of.ensures i, c.in-Some.ensures.octets i)) c.in-Some-make_by.ensures.begins
