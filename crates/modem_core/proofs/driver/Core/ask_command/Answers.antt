-- It is told at once.
use Rattle.std.specs.Prelude.{Some}
use Rattle.std.proofs.Common.{sym, subst}
use Rattle.modem_desk.specs.declared.request.Ask.TheVariants.{Command}
use Rattle.modem_history.specs.Information.{line_of}
use Rattle.modem_core.specs.Cores.{Core}
use Rattle.modem_core.specs.Doing.{AsksAlone, MayTake}
use Rattle.modem_core.proofs.requests.CommandRequests.{command_refused}
use Rattle.modem_core.proofs.driver.Core.ask_command.Goals as goal

pub returns-in-Some : goal.returns-in-Some
returns-in-Some c =
    let q = c.args.request in
    let v : Core = record { station = c.self.inside.station; lanes = c.self.inside.lanes; hand = c.self.inside.hand; rules = c.self.inside.dialect; kinds = c.self.inside.kinds.items; lost = c.self.inside.lost } in
    let may = subst (λ (x : Core). MayTake x q (Command c.args.dlci (line_of q))) (sym c.self.view_is) c.requires in
    subst (λ (x : Core). AsksAlone x x q (Some c.in-Some.why)) c.self.view_is (command_refused v q c.args.dlci c.in-Some.why c.self.invariant.role_is may (sym c.in-Some.ensures))
