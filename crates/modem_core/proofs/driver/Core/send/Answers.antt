-- A command goes into hand.
use Rattle.std.specs.Prelude.{◌≡◌, ◌<◌, ℕ, List, [], ◌∷◌, ◌++◌, length, refl}
use Rattle.std.proofs.Common.{ap, sym, subst}
use Rattle.modem_desk.specs.declared.request.Request.{Request}
use Rattle.modem_history.specs.Acts.{Took}
use Rattle.modem_history.specs.Information.{line_of}
use Rattle.modem_history.specs.declared.act.Act.TheVariants as code
use Rattle.modem_core.specs.Offers.{OffersFirstCommand}
use Rattle.modem_core.specs.Cores.{Core, Handles}
use Rattle.modem_core.proofs.holds.OtherCalls.{keeps_sent}
use Rattle.modem_core.proofs.requests.CommandRequests.{Commands, command_handles}
use Rattle.modem_core.proofs.requests.SentCommands.{GoesInHand, goes_in_hand}
use Rattle.modem_core.proofs.driver.Core.send.Goals as goal

pub push-requires : goal.push-requires
push-requires c =
    let sent : GoesInHand c.args.self.now c.args.request.ask c.args.dlci = goes_in_hand c.args.self.now c.args.request.ask c.args.dlci c.requires in
    subst (λ (x : Core). length x.hand < 128) (sym c.self.view_is) sent.few

pub returns-clause-past : goal.returns-clause-past
returns-clause-past c =
    let q = c.args.request in
    let n = c.args.dlci.number in
    let w = c.offer_first.new.station in
    let v : Core = record { station = c.self.inside.station; lanes = c.self.inside.lanes; hand = c.self.inside.hand; rules = c.self.inside.dialect; kinds = c.self.inside.kinds.items; lost = c.self.inside.lost } in
    let new : Core = record v { station = w; hand = c.push.new.self } in
    let same : new ≡ record v { station = w; hand = v.hand ++ q ∷ [] } = ap (λ (rs : List Request). record v { station = w; hand = rs }) c.push.ensures in
    let sent : GoesInHand v q.ask c.args.dlci = subst (λ (x : Core). GoesInHand x q.ask c.args.dlci) (sym c.self.view_is) (goes_in_hand c.args.self.now q.ask c.args.dlci c.requires) in
    let line : c.octets_of-line.result.now ≡ line_of q ++ 13 ∷ [] = c.octets_of-line.ensures.octets in
    let goes : Commands v w q c.args.dlci = record {
      asks = sent.asks;
      taken_on = sent.taken_on;
      short = c.octets_of-line.ensures.short;
      offers = subst (λ (t : List ℕ). OffersFirstCommand v.hand v.station w n t) line c.offer_first.ensures;
    } in
    subst (λ (x : Core). Handles x new (Took q) (Took q ∷ [])) c.self.view_is
    (command_handles v new w q c.args.dlci (code.Took q ∷ []) c.self.invariant.role_is sent.live sent.few goes same refl)

pub returns-clause-holds : goal.returns-clause-holds
returns-clause-holds c =
    let new : Core = record { station = c.offer_first.new.station; lanes = c.self.inside.lanes; hand = c.push.new.self; rules = c.self.inside.dialect; kinds = c.self.inside.kinds.items; lost = c.self.inside.lost } in
    keeps_sent c.args.self.now new c.args.request (Took c.args.request ∷ []) (ap (λ (v : Core). v.lanes) c.self.view_is) (returns-clause-past c)
