-- A DISC is sent, and the commands of the connection are told, or the station refuses.
use Rattle.std.specs.Prelude.{◌≡◌, ◌<◌, false, List, [], ◌∷◌, ◌++◌, length, Some, None}
use Rattle.std.proofs.Common.{ap, sym, ◌∙◌, subst, arith}
use Rattle.mux_station.specs.Stations.{Station}
use Rattle.modem_desk.specs.declared.request.Answer.{Answer}
use Rattle.modem_desk.specs.declared.request.Ask.TheVariants.{CloseChannel}
use Rattle.modem_desk.specs.declared.request.Request.{Request}
use Rattle.modem_core.specs.declared.telling.Happened.TheVariants as happened
use Rattle.modem_core.specs.Telling.{told_by, left_by}
use Rattle.modem_core.specs.Cores.{Core, state_shown}
use Rattle.modem_core.specs.Doing.{Asked, MayTake}
use Rattle.modem_core.proofs.requests.AskedRequests.{alone, asked_on}
use Rattle.modem_core.proofs.requests.OneFrameRequests.{few_left}
use Rattle.modem_core.proofs.requests.CloseRequests.{Closes, close_accepts, close_refused}
use Rattle.modem_core.proofs.driver.Core.ask_close.Goals as goal

pub returns-in-Err-clause-asked : goal.returns-in-Err-clause-asked
returns-in-Err-clause-asked c =
    let q = c.args.request in
    let was = c.args.outcomes.now.items in
    let v : Core = record { station = c.self.inside.station; lanes = c.self.inside.lanes; hand = c.self.inside.hand; rules = c.self.inside.dialect; kinds = c.self.inside.kinds.items; lost = c.self.inside.lost } in
    let new : Core = record v { station = c.close.new.self } in
    let may = subst (λ (x : Core). MayTake x q (CloseChannel c.args.dlci)) (sym c.self.view_is) c.requires.may in
    subst (λ (x : Core). Asked x new was was q (Some c.answer_of.result)) c.self.view_is
    (subst (λ (a : Answer). Asked v new was was q (Some a)) (sym c.answer_of.ensures)
    (alone v new was q _ (close_refused v new q c.args.dlci c.in-Err.why c.self.invariant.role_is may (sym c.in-Err.ensures.refusal) (ap (λ (w : Station). record v { station = w }) c.in-Err.ensures.err))))

pub returns-clause-asked : goal.returns-clause-asked
returns-clause-asked c =
    let q = c.args.request in
    let w = c.close.new.self in
    let was = c.args.outcomes.now.items in
    let v : Core = record { station = c.self.inside.station; lanes = c.self.inside.lanes; hand = c.self.inside.hand; rules = c.self.inside.dialect; kinds = c.self.inside.kinds.items; lost = c.self.inside.lost } in
    let says = told_by happened.Took false (state_shown w false) in
    let new : Core = record v { station = w; hand = c.push.new.self } in
    let same : new ≡ record v { station = w; hand = left_by says v.hand ++ q ∷ [] }
    = ap (λ (rs : List Request). record v { station = w; hand = rs }) (c.push.ensures ∙ ap (λ (rs : List Request). rs ++ q ∷ []) c.tell_on.ensures.hand) in
    let may = subst (λ (x : Core). MayTake x q (CloseChannel c.args.dlci)) (sym c.self.view_is) c.requires.may in
    let goes : Closes v w q c.args.dlci = record { asks = may.asks; taken_on = sym c.in_default.ensures.refusal; goes_on = c.in_default.ensures.past } in
    subst (λ (x : Core). Asked x new was c.tell_on.new.told.items q None) c.self.view_is
    (asked_on v new w q false was _ c.self.invariant.role_is may.live (close_accepts v w q c.args.dlci may.few goes) goes.goes_on.setting same c.tell_on.ensures.adds)

pub push-requires : goal.push-requires
push-requires c =
    let says = told_by happened.Took false (state_shown c.close.new.self false) in
    let hand = c.self.inside.hand in
    let left = few_left says hand in
    let same = ap length c.tell_on.ensures.hand in
    let few : length hand < 128 = subst (λ (x : Core). length x.hand < 128) (sym c.self.view_is) c.requires.may.few in
    omega (arith, left, few, same)
