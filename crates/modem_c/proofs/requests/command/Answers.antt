-- The connection is the one of that number, and the line has that text.
use Rattle.std.proofs.Common.{List, ℕ, subst}
use Rattle.std.specs.Prelude.{IfOk}
use Rattle.modem_desk.specs.declared.request.Ask.TheVariants.{Command}
use Rattle.modem_driver.specs.declared.endpoint.error.RequestRefused.{RequestRefused}
use Rattle.modem_c.specs.Calls.{NumbersAt}
use Rattle.modem_c.proofs.TakenRequests.{asks_text}
use Rattle.modem_c.proofs.requests.command.Goals as goal

pub returns-clause-takes : goal.returns-clause-takes
returns-clause-takes c =
    subst (λ (t : List ℕ). IfOk c.without_ask.result (λ n. NumbersAt c.args.endpoint.now c.command.new.self (λ d. Command d t) c.args.dlci.number n)) c.requires
    (asks_text _ _ c.args.line c.args.dlci c.command.result c.without_ask.result (λ (e : RequestRefused). e.why) c.command.ensures.takes c.without_ask.ensures.ok
    c.without_ask.ensures.err)
