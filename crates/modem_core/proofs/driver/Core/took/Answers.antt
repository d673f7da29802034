-- The call, and its acts.
use Rattle.std.specs.Prelude.{◌≡◌, List, [], ◌∷◌, ◌++◌, map, option_to_list}
use Rattle.std.proofs.Common.{ap, sym, ◌∙◌, subst, arith}
use Rattle.mux_frame.specs.Frames.{Frame, kept_frame}
use Rattle.modem_desk.specs.declared.request.Outcome.{Outcome}
use Rattle.modem_history.specs.Acts.{Act, Took, Told, act_of}
use Rattle.modem_core.specs.ActLists.{ActList}
use Rattle.modem_core.specs.Doing.{Asks}
use Rattle.modem_core.specs.TakenActs.{came_to, outcome_of, taken_acts}
use Rattle.modem_core.specs.Cores.{Handles}
use Rattle.modem_core.proofs.holds.OtherCalls.{keeps_sent}
use Rattle.modem_core.proofs.requests.AskedRequests.{asked_all, few_asked}
use Rattle.modem_core.proofs.driver.Core.took.Goals as goal

pub push_told-requires : goal.push_told-requires
push_told-requires c =
    let old = c.args.self.now in
    let new = c.ask_any-told.new.self in
    let now = c.ask_any-told.new.outcomes.items in
    let answer = c.ask_any-told.result in
    let asks = subst (λ (os : List Outcome). Asks old new os now c.args.request answer) c.in-Ok.ensures.none c.ask_any-told.ensures.asked.asks in
    let told = few_asked old new now c.args.request answer c.in-Ok.ensures.few asks in
    let left = ap (λ (a : ActList). a.left) c.in-Ok.ensures.acts in
    let room = c.push_came.ensures.left in
    omega (arith, told, left, room)

pub returns-clause-past : goal.returns-clause-past
returns-clause-past c =
    let q = c.args.request in
    let old = c.args.self.now in
    let new = c.ask_any-told.new.self in
    let now = c.ask_any-told.new.outcomes.items in
    let answer = c.ask_any-told.result in
    let asks = subst (λ (os : List Outcome). Asks old new os now q answer) c.in-Ok.ensures.none c.ask_any-told.ensures.asked.asks in
    let begun : map act_of c.in-Ok.acts.acts ≡ Took q ∷ [] = ap (λ (a : ActList). map act_of a.acts) c.in-Ok.ensures.acts in
    let came : map act_of c.push_came.new.acts.acts ≡ taken_acts q answer
    = c.push_came.ensures.acts
    ∙ (ap (λ (x : List Act). x ++ came_to (outcome_of q.caller q.number answer) (map kept_frame (option_to_list c.in-Ok.sent))) begun
    ∙ ap (λ (fs : List Frame). Took q ∷ came_to (outcome_of q.caller q.number answer) fs) c.in-Ok.ensures.sent) in
    let acts : map act_of c.into_vec.result.items ≡ taken_acts q answer ++ map Told now
    = ap (map act_of) c.into_vec.ensures ∙ (c.push_told.ensures ∙ ap (λ (x : List Act). x ++ map Told now) came) in
    subst (Handles old new (Took q)) (sym acts) (asked_all old new now q answer c.in-Ok.ensures.few asks)

pub returns-clause-holds : goal.returns-clause-holds
returns-clause-holds c = keeps_sent c.args.self.now c.ask_any-told.new.self c.args.request _ c.ask_any-told.ensures.asked.lanes (returns-clause-past c)
