-- The desk gives a request, or none.
use Rattle.std.proofs.Common.{sym, subst}
use Rattle.std.specs.Prelude.{Option, option_to_list}
use Rattle.modem_desk.specs.declared.request.Request.{Request}
use Rattle.modem_driver.specs.SessionStates.{AreFormed}
use Rattle.modem_driver.proofs.sessions.steps.NextRequest.{Gives, gives, none_to_take, takes_some}
use Rattle.modem_driver.proofs.machine.Machine.take_next.Goals as goal

pub returns-in_default : goal.returns-in_default
returns-in_default g c =
    let d = c.args.driver.now in
    let h = c.next.ensures in
    let formed : AreFormed (option_to_list c.next.result) = subst (λ (o : Option Request). AreFormed (option_to_list o)) (sym c.in_default.is) tt in
    let all = gives d c.next.new.self c.next.result h.desk.0 h.desk.1 h.desk.2 (h.desk.3, h.desk.4) (h.desk.5, h.desk.6) h.found h.numbered h.taken formed in
    λ l. none_to_take l d c.next.new.self c.args.self.now (subst (Gives d c.next.new.self) c.in_default.is all)

pub returns : goal.returns
returns g c =
    let d = c.args.driver.now in
    let h = c.next.ensures in
    let formed : AreFormed (option_to_list c.next.result) = subst (λ (o : Option Request). AreFormed (option_to_list o)) (sym c.in-Some.is) (c.know_form.ensures, tt) in
    let all = gives d c.next.new.self c.next.result h.desk.0 h.desk.1 h.desk.2 (h.desk.3, h.desk.4) (h.desk.5, h.desk.6) h.found h.numbered h.taken formed in
    λ l. takes_some l d c.next.new.self c.args.self.now c.take_request.new.self c.in-Some.request c.requires (subst (Gives d c.next.new.self) c.in-Some.is all) c.take_request.ensures.takes
