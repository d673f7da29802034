-- The line has the text; a text for which there is no memory changes nothing.
use Rattle.std.proofs.Common.{rules, ℕ, ap, sym, subst, ◌∙◌}
use Rattle.std.specs.Prelude.{Option, Some}
use Rattle.at_text.specs.Commands.{refusal_of}
use Rattle.mux_frame.specs.declared.dlci.Dlci.{Dlci}
use Rattle.modem_desk.specs.declared.request.Ask.{Ask}
use Rattle.modem_desk.specs.declared.request.Ask.TheVariants.{Command}
use Rattle.modem_driver.specs.Endpoints.{EndpointState, Refuses}
use Rattle.modem_c.specs.Calls.{HoldsSome, NumbersAt, endpoint_of}
use Rattle.modem_c.proofs.TakenRequests.{answered, goes_by, line_is, stays_refused}
use Rattle.modem_c.proofs.requests.cimbaloty_command_at.Goals as goal

pub command-asked-requires : goal.command-asked-requires
command-asked-requires c = line_is (refusal_of c.args.text.now) c.new-2.result c.args.text.now c.in-Ok.line c.new-2.ensures c.in-Ok.is

pub returns-in-Err-clause-refused : goal.returns-in-Err-clause-refused
returns-in-Err-clause-refused c = λ _. stays_refused (endpoint_of c.args.c.now) (search rules)

pub returns-in-Err-NoMemory-clause-refused : goal.returns-in-Err-NoMemory-clause-refused
returns-in-Err-NoMemory-clause-refused c _ =
    let was = endpoint_of c.args.c.now in
    subst (λ (o : Option EndpointState). HoldsSome was (λ (e : EndpointState). HoldsSome o (Refuses e))) (sym c.without_text.ensures.stays) (stays_refused was (search rules))

pub returns-clause-takes : goal.returns-clause-takes
returns-clause-takes c ok =
    let e = c.deref_mut.result.now in
    let f = c.command-asked.new.endpoint in
    let asks : Dlci → Ask = λ d. Command d c.args.text.now in
    let n = c.answer.new.number in
    let was = c.in-Some-take.ensures.what ∙ ap Some (sym c.deref_mut.ensures.value) in
    let taken = answered (NumbersAt e f asks c.in-Some.dlci.number) c.command-asked.result c.answer.result n c.command-asked.ensures.takes c.answer.ensures.ok c.answer.ensures.refused ok in
    goes_by (λ x y. NumbersAt x y asks c.args.dlci n) (endpoint_of c.args.c.now) (endpoint_of c.of.result) e f was c.of.ensures
    (subst (λ (z : ℕ). NumbersAt e f asks z n) c.in-Some.ensures.number taken)
