-- What is told at once, whatever is asked.
use Rattle.std.specs.Prelude.{Some}
use Rattle.std.proofs.Common.{sym, ◌∙◌, subst}
use Rattle.modem_desk.specs.declared.request.Answer.TheVariants.{LineLost, Busy}
use Rattle.modem_core.specs.Cores.{Core}
use Rattle.modem_core.specs.Doing.{AsksAlone}
use Rattle.modem_core.proofs.requests.AcceptedRequests.{lost_alone, full_alone}
use Rattle.modem_core.proofs.requests.AskedRequests.{alone}
use Rattle.modem_core.proofs.driver.Core.ask_any.Goals as goal

pub returns-then-self-clause-asked : goal.returns-then-self-clause-asked
returns-then-self-clause-asked c =
    let q = c.args.request in
    let v : Core = record { station = c.self.inside.station; lanes = c.self.inside.lanes; hand = c.self.inside.hand; rules = c.self.inside.dialect; kinds = c.self.inside.kinds.items; lost = c.self.inside.lost } in
    alone _ _ _ q _ (subst (λ (x : Core). AsksAlone x x q (Some LineLost)) c.self.view_is (lost_alone v q c.if-self.true))

pub returns-then-is_full-clause-asked : goal.returns-then-is_full-clause-asked
returns-then-is_full-clause-asked c =
    let q = c.args.request in
    let v : Core = record { station = c.self.inside.station; lanes = c.self.inside.lanes; hand = c.self.inside.hand; rules = c.self.inside.dialect; kinds = c.self.inside.kinds.items; lost = c.self.inside.lost } in
    alone _ _ _ q _ (subst (λ (x : Core). AsksAlone x x q (Some Busy)) c.self.view_is (full_alone v q c.self.invariant.role_is c.if-self.false (sym c.is_full.ensures ∙ c.if-is_full.true)))
