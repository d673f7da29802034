-- The call, and its acts.
use Rattle.std.specs.Prelude.{◌≡◌, ◌≤◌, List, [], ◌∷◌, ◌++◌, length, map}
use Rattle.std.proofs.Common.{ap, sym, ◌∙◌, subst, arith}
use Rattle.mux_frame.specs.Frames.{Frame}
use Rattle.modem_desk.specs.declared.request.Outcome.{Outcome}
use Rattle.modem_history.specs.Acts.{Act, Lost, Sent, Told, act_of}
use Rattle.modem_history.specs.declared.act.Act.TheVariants as code
use Rattle.modem_core.specs.ActLists.{ActList}
use Rattle.modem_core.specs.Cores.{Core}
use Rattle.modem_core.specs.Doing.{Does, first_frames, new_frames}
use Rattle.modem_core.specs.Receiving.{cut_to}
use Rattle.modem_core.proofs.cores.DoneCalls.{few_since, take_none, written}
use Rattle.modem_core.proofs.holds.OtherCalls.{keeps_lost}
use Rattle.modem_core.proofs.driver.Core.lost.Goals as goal

pub push_told-requires : goal.push_told-requires
push_told-requires c =
    let old = c.args.self.now in
    let new = c.do_loss.new.self in
    let now = c.do_loss.new.told.items in
    let hand = ap (λ (v : Core). length v.hand) c.self.view_is in
    let len = c.len.ensures.value in
    let most = c.len.ensures.few in
    let few : length old.hand ≤ 128 = omega (arith, hand, len, most) in
    let does = subst (λ (os : List Outcome). Does old new os now Lost c.do_loss.result) c.in_ok-told.ensures.none c.do_loss.ensures.does in
    let told = few_since old new Lost now c.do_loss.result few does in
    let left = ap (λ (a : ActList). a.left) c.in_ok-acts.ensures in
    let pushed = ap (λ (a : ActList). a.left) c.push.ensures in
    omega (arith, told, left, pushed, hand, len)

pub returns-clause-past : goal.returns-clause-past
returns-clause-past c =
    let old = c.args.self.now in
    let new = c.do_loss.new.self in
    let now = c.do_loss.new.told.items in
    let hand = ap (λ (v : Core). length v.hand) c.self.view_is in
    let len = c.len.ensures.value in
    let most = c.len.ensures.few in
    let few : length old.hand ≤ 128 = omega (arith, hand, len, most) in
    let does = subst (λ (os : List Outcome). Does old new os now Lost c.do_loss.result) c.in_ok-told.ensures.none c.do_loss.ensures.does in
    let pushed : map act_of c.push.new.self.acts ≡ Lost ∷ [] = ap (λ (a : ActList). map act_of a.acts) c.push.ensures ∙ ap (λ (a : ActList). map act_of (a.acts ++ code.Lost ∷ [])) c.in_ok-acts.ensures in
    let acts : map act_of c.into_vec.result.items ≡ Lost ∷ (map Sent (first_frames 0 0 old new) ++ map Told now)
    = ap (map act_of) c.into_vec.ensures
    ∙ (c.push_told.ensures
    ∙ (ap (λ (x : List Act). x ++ map Told now) pushed
    ∙ ap (λ (fs : List Frame). Lost ∷ (map Sent (map (cut_to 0) fs) ++ map Told now)) (sym (take_none (new_frames old new))))) in
    written old new Lost now c.do_loss.result 0 0 _ few does c.do_loss.ensures.queues acts

pub returns-clause-holds : goal.returns-clause-holds
returns-clause-holds c = keeps_lost c.args.self.now c.do_loss.new.self _ (returns-clause-past c)
