-- The call, and its acts.
use Rattle.std.specs.Prelude.{◌≡◌, ◌≤◌, ℕ, List, [], ◌∷◌, ◌++◌, length, map, take, refl}
use Rattle.std.proofs.Common.{ap, sym, ◌∙◌, subst, arith}
use Rattle.mux_frame.specs.Frames.{Frame}
use Rattle.mux_station.specs.Stations.{Station}
use Rattle.modem_desk.specs.declared.request.Outcome.{Outcome}
use Rattle.modem_history.specs.Acts.{Act, Sent, Tick, Told, act_of}
use Rattle.modem_history.specs.declared.act.Act.TheVariants as code
use Rattle.modem_core.specs.ActLists.{ActList}
use Rattle.modem_core.specs.Cores.{Core, Handles}
use Rattle.modem_core.specs.Doing.{Does, first_frames, new_frames}
use Rattle.modem_core.specs.Holding.{KeepsHeld}
use Rattle.modem_core.specs.Ticked.{asking_from, queued_from}
use Rattle.modem_core.proofs.cores.DoneCalls.{bare_cut, few_since, written, written_held}
use Rattle.modem_core.proofs.holds.OtherCalls.{keeps_tick}
use Rattle.modem_core.proofs.ticks.CoreTicks.{tick_lost}
use Rattle.modem_core.proofs.driver.Core.tick.Goals as goal

-- after a loss
pub returns-then-self-clause-past : goal.returns-then-self-clause-past
returns-then-self-clause-past c =
    let v : Core = record { station = c.self.inside.station; lanes = c.self.inside.lanes; hand = c.self.inside.hand; rules = c.self.inside.dialect; kinds = c.self.inside.kinds.items; lost = c.self.inside.lost } in
    let acts : c.into_vec.result.items ≡ code.Tick ∷ []
    = c.into_vec.ensures ∙ (ap (λ (a : ActList). a.acts) c.push.ensures ∙ ap (λ (a : ActList). a.acts ++ code.Tick ∷ []) c.in_ok-acts.ensures) in
    subst (λ (x : Core). Handles x x Tick (map act_of c.into_vec.result.items)) c.self.view_is (tick_lost v v c.into_vec.result.items c.if-self.true refl acts)

pub returns-then-self-clause-holds : goal.returns-then-self-clause-holds
returns-then-self-clause-holds c = keeps_tick c.args.self.now c.args.self.now (map act_of c.into_vec.result.items) refl (returns-then-self-clause-past c)

pub push_told-requires : goal.push_told-requires
push_told-requires c =
    let old = c.args.self.now in
    let mid = c.do_tick.new.self in
    let now = c.do_tick.new.told.items in
    let hand = ap (λ (v : Core). length v.hand) c.self.view_is in
    let len = c.len.ensures.value in
    let small = c.len.ensures.few in
    let few : length old.hand ≤ 128 = omega (arith, hand, len, small) in
    let does = subst (λ (os : List Outcome). Does old mid os now Tick c.do_tick.result) c.in_ok-told.ensures.none c.do_tick.ensures.does in
    let told = few_since old mid Tick now c.do_tick.result few does in
    let left = ap (λ (a : ActList). a.left) c.in_ok-acts.ensures in
    let pushed = ap (λ (a : ActList). a.left) c.push.ensures in
    let queued = c.push_queued.ensures.left in
    omega (arith, told, left, pushed, queued, hand, len)

pub returns-clause-past : goal.returns-clause-past
returns-clause-past c =
    let old = c.args.self.now in
    let mid = c.do_tick.new.self in
    let now = c.do_tick.new.told.items in
    let hand = ap (λ (v : Core). length v.hand) c.self.view_is in
    let len = c.len.ensures.value in
    let small = c.len.ensures.few in
    let few : length old.hand ≤ 128 = omega (arith, hand, len, small) in
    let most = asking_from old.station 0 62 in
    let does = subst (λ (os : List Outcome). Does old mid os now Tick c.do_tick.result) c.in_ok-told.ensures.none c.do_tick.ensures.does in
    let new : Station → Core = λ st. let v : Core = record { station = st; lanes = c.self-2.inside.lanes; hand = c.self-2.inside.hand; rules = c.self-2.inside.dialect; kinds = c.self-2.inside.kinds.items; lost = c.self-2.inside.lost } in v in
    let same : new c.push_queued.new.station ≡ mid = ap new c.push_queued.ensures.same ∙ c.self-2.view_is in
    let began : map act_of c.push.new.self.acts ≡ Tick ∷ [] = ap (λ (a : ActList). map act_of a.acts) c.push.ensures ∙ ap (λ (a : ActList). map act_of (a.acts ++ code.Tick ∷ [])) c.in_ok-acts.ensures in
    let place : c.queue_len-place.result ≡ length old.station.queue = c.queue_len-place.ensures.value ∙ ap (λ (v : Core). length v.station.queue) c.self.view_is in
    let asking : c.count_asking-most.result ≡ most = c.count_asking-most.ensures.value ∙ ap (λ (v : Core). asking_from v.station 0 62) c.self.view_is in
    let queue = c.self-2.inside.station.queue in
    let sent : map act_of c.push_queued.new.acts.acts ≡ Tick ∷ map Sent (first_frames most 0 old mid)
    = c.push_queued.ensures.acts
    ∙ (ap (λ (x : List Act). x ++ map Sent (queued_from queue c.queue_len-place.result c.count_asking-most.result)) began
    ∙ (ap (λ (n : ℕ). Tick ∷ map Sent (queued_from queue n c.count_asking-most.result)) place
    ∙ (ap (λ (n : ℕ). Tick ∷ map Sent (queued_from queue (length old.station.queue) n)) asking
    ∙ (ap (λ (v : Core). Tick ∷ map Sent (queued_from v.station.queue (length old.station.queue) most)) c.self-2.view_is
    ∙ ap (λ (fs : List Frame). Tick ∷ map Sent fs) (bare_cut (take most (new_frames old mid))))))) in
    let acts : map act_of c.into_vec-2.result.items ≡ Tick ∷ (map Sent (first_frames most 0 old mid) ++ map Told now)
    = ap (map act_of) c.into_vec-2.ensures ∙ (c.push_told.ensures ∙ ap (λ (x : List Act). x ++ map Told now) sent) in
    subst (λ (v : Core). Handles old v Tick (map act_of c.into_vec-2.result.items)) (sym same)
    (written old mid Tick now c.do_tick.result most 0 _ few does c.do_tick.ensures.queues acts)

pub returns-clause-holds : goal.returns-clause-holds
returns-clause-holds c =
    let old = c.args.self.now in
    let mid = c.do_tick.new.self in
    let now = c.do_tick.new.told.items in
    let hand = ap (λ (v : Core). length v.hand) c.self.view_is in
    let len = c.len.ensures.value in
    let small = c.len.ensures.few in
    let few : length old.hand ≤ 128 = omega (arith, hand, len, small) in
    let most = asking_from old.station 0 62 in
    let does = subst (λ (os : List Outcome). Does old mid os now Tick c.do_tick.result) c.in_ok-told.ensures.none c.do_tick.ensures.does in
    let new : Station → Core = λ st. let v : Core = record { station = st; lanes = c.self-2.inside.lanes; hand = c.self-2.inside.hand; rules = c.self-2.inside.dialect; kinds = c.self-2.inside.kinds.items; lost = c.self-2.inside.lost } in v in
    let same : new c.push_queued.new.station ≡ mid = ap new c.push_queued.ensures.same ∙ c.self-2.view_is in
    let began : map act_of c.push.new.self.acts ≡ Tick ∷ [] = ap (λ (a : ActList). map act_of a.acts) c.push.ensures ∙ ap (λ (a : ActList). map act_of (a.acts ++ code.Tick ∷ [])) c.in_ok-acts.ensures in
    let place : c.queue_len-place.result ≡ length old.station.queue = c.queue_len-place.ensures.value ∙ ap (λ (v : Core). length v.station.queue) c.self.view_is in
    let asking : c.count_asking-most.result ≡ most = c.count_asking-most.ensures.value ∙ ap (λ (v : Core). asking_from v.station 0 62) c.self.view_is in
    let queue = c.self-2.inside.station.queue in
    let sent : map act_of c.push_queued.new.acts.acts ≡ Tick ∷ map Sent (first_frames most 0 old mid)
    = c.push_queued.ensures.acts
    ∙ (ap (λ (x : List Act). x ++ map Sent (queued_from queue c.queue_len-place.result c.count_asking-most.result)) began
    ∙ (ap (λ (n : ℕ). Tick ∷ map Sent (queued_from queue n c.count_asking-most.result)) place
    ∙ (ap (λ (n : ℕ). Tick ∷ map Sent (queued_from queue (length old.station.queue) n)) asking
    ∙ (ap (λ (v : Core). Tick ∷ map Sent (queued_from v.station.queue (length old.station.queue) most)) c.self-2.view_is
    ∙ ap (λ (fs : List Frame). Tick ∷ map Sent fs) (bare_cut (take most (new_frames old mid))))))) in
    let acts : map act_of c.into_vec-2.result.items ≡ Tick ∷ (map Sent (first_frames most 0 old mid) ++ map Told now)
    = ap (map act_of) c.into_vec-2.ensures ∙ (c.push_told.ensures ∙ ap (λ (x : List Act). x ++ map Told now) sent) in
    subst (λ (v : Core). KeepsHeld old v Tick (map act_of c.into_vec-2.result.items)) (sym same)
    (written_held old mid Tick now c.do_tick.result most 0 _ few does c.do_tick.ensures.queues acts)
