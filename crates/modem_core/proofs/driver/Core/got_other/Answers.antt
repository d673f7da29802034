-- The call, and its acts.
use Rattle.std.specs.Prelude.{◌≡◌, ◌≤◌, ℕ, List, [], ◌∷◌, ◌++◌, length, map, slice_get, vec_capacity}
use Rattle.std.proofs.Common.{ap, sym, ◌∙◌, subst, arith}
use Rattle.mux_frame.specs.Frames.{Frame, frame_of}
use Rattle.mux_station.specs.Stations.{Station}
use Rattle.modem_desk.specs.declared.request.Outcome.{Outcome}
use Rattle.modem_history.specs.Acts.{Act, Got, Sent, Told, act_of}
use Rattle.modem_history.specs.declared.act.Act.TheVariants as code
use Rattle.modem_core.specs.ActLists.{ActList}
use Rattle.modem_core.specs.Cores.{Core, Handles}
use Rattle.modem_core.specs.Doing.{Does, first_frames}
use Rattle.modem_core.specs.Holding.{KeepsHeld}
use Rattle.modem_core.specs.Receiving.{answer_room, sent_in}
use Rattle.modem_core.proofs.cores.DoneCalls.{few_since, written, written_held}
use Rattle.modem_core.proofs.frames.StationAfterFrame.{sent_first}
use Rattle.modem_core.proofs.driver.Core.got_other.Goals as goal

pub push_told-requires : goal.push_told-requires
push_told-requires c =
    let f = frame_of c.args.frame in
    let old = c.args.self.now in
    let mid = c.do_other.new.self in
    let now = c.do_other.new.told.items in
    let hand = ap (λ (v : Core). length v.hand) c.self.view_is in
    let len = c.len.ensures.value in
    let most = c.len.ensures.few in
    let few : length old.hand ≤ 128 = omega (arith, hand, len, most) in
    let does = subst (λ (os : List Outcome). Does old mid os now (Got f) c.in-Some._answered) c.in_ok-told.ensures.none c.in-Some.ensures.does in
    let told = few_since old mid (Got f) now c.in-Some._answered few does in
    let left = ap (λ (a : ActList). a.left) c.in_ok-acts.ensures in
    let pushed = ap (λ (a : ActList). a.left) c.push.ensures in
    let sent = c.push_sent.ensures.left in
    omega (arith, told, left, pushed, sent, hand, len)

pub returns-clause-past : goal.returns-clause-past
returns-clause-past c =
    let f = frame_of c.args.frame in
    let old = c.args.self.now in
    let mid = c.do_other.new.self in
    let now = c.do_other.new.told.items in
    let hand = ap (λ (v : Core). length v.hand) c.self.view_is in
    let len = c.len.ensures.value in
    let most = c.len.ensures.few in
    let few : length old.hand ≤ 128 = omega (arith, hand, len, most) in
    let does = subst (λ (os : List Outcome). Does old mid os now (Got f) c.in-Some._answered) c.in_ok-told.ensures.none c.in-Some.ensures.does in
    let new : Station → Core = λ st. let v : Core = record { station = st; lanes = c.self-2.inside.lanes; hand = c.self-2.inside.hand; rules = c.self-2.inside.dialect; kinds = c.self-2.inside.kinds.items; lost = c.self-2.inside.lost } in v in
    let same : new c.push_sent.new.station ≡ mid = ap new c.push_sent.ensures.station ∙ c.self-2.view_is in
    let began : map act_of c.push.new.self.acts ≡ Got f ∷ []
    = ap (λ (a : ActList). map act_of a.acts) c.push.ensures
    ∙ (ap (λ (a : ActList). map act_of (a.acts ++ code.Got c.in_ok-to_buf.field-0 ∷ [])) c.in_ok-acts.ensures ∙ ap (λ (g : Frame). Got g ∷ []) c.in_ok-to_buf.ensures) in
    let room : vec_capacity c.in_ok-spare.spare ≡ answer_room f = c.in_ok-spare.ensures.exact ∙ c.max.ensures in
    let place : c.queue_len-place.result ≡ length old.station.queue = c.queue_len-place.ensures.value ∙ ap (λ (v : Core). length v.station.queue) c.self.view_is in
    let queue = c.self-2.inside.station.queue in
    let sent : map act_of c.push_sent.new.acts.acts ≡ Got f ∷ map Sent (first_frames 1 (answer_room f) old mid)
    = c.push_sent.ensures.acts
    ∙ (ap (λ (x : List Act). x ++ sent_in (vec_capacity c.in_ok-spare.spare) (slice_get queue c.queue_len-place.result)) began
    ∙ (ap (λ (n : ℕ). Got f ∷ sent_in n (slice_get queue c.queue_len-place.result)) room
    ∙ (ap (λ (n : ℕ). Got f ∷ sent_in (answer_room f) (slice_get queue n)) place
    ∙ (ap (λ (v : Core). Got f ∷ sent_in (answer_room f) (slice_get v.station.queue (length old.station.queue))) c.self-2.view_is
    ∙ ap (λ (x : List Act). Got f ∷ x) (sent_first (answer_room f) (length old.station.queue) mid.station.queue))))) in
    let acts : map act_of c.into_vec.result.items ≡ Got f ∷ (map Sent (first_frames 1 (answer_room f) old mid) ++ map Told now)
    = ap (map act_of) c.into_vec.ensures ∙ (c.push_told.ensures ∙ ap (λ (x : List Act). x ++ map Told now) sent) in
    subst (λ (v : Core). Handles old v (Got f) (map act_of c.into_vec.result.items)) (sym same)
    (written old mid (Got f) now c.in-Some._answered 1 (answer_room f) _ few does c.in-Some.ensures.queues acts)

pub returns-clause-holds : goal.returns-clause-holds
returns-clause-holds c =
    let f = frame_of c.args.frame in
    let old = c.args.self.now in
    let mid = c.do_other.new.self in
    let now = c.do_other.new.told.items in
    let hand = ap (λ (v : Core). length v.hand) c.self.view_is in
    let len = c.len.ensures.value in
    let most = c.len.ensures.few in
    let few : length old.hand ≤ 128 = omega (arith, hand, len, most) in
    let does = subst (λ (os : List Outcome). Does old mid os now (Got f) c.in-Some._answered) c.in_ok-told.ensures.none c.in-Some.ensures.does in
    let new : Station → Core = λ st. let v : Core = record { station = st; lanes = c.self-2.inside.lanes; hand = c.self-2.inside.hand; rules = c.self-2.inside.dialect; kinds = c.self-2.inside.kinds.items; lost = c.self-2.inside.lost } in v in
    let same : new c.push_sent.new.station ≡ mid = ap new c.push_sent.ensures.station ∙ c.self-2.view_is in
    let began : map act_of c.push.new.self.acts ≡ Got f ∷ []
    = ap (λ (a : ActList). map act_of a.acts) c.push.ensures
    ∙ (ap (λ (a : ActList). map act_of (a.acts ++ code.Got c.in_ok-to_buf.field-0 ∷ [])) c.in_ok-acts.ensures ∙ ap (λ (g : Frame). Got g ∷ []) c.in_ok-to_buf.ensures) in
    let room : vec_capacity c.in_ok-spare.spare ≡ answer_room f = c.in_ok-spare.ensures.exact ∙ c.max.ensures in
    let place : c.queue_len-place.result ≡ length old.station.queue = c.queue_len-place.ensures.value ∙ ap (λ (v : Core). length v.station.queue) c.self.view_is in
    let queue = c.self-2.inside.station.queue in
    let sent : map act_of c.push_sent.new.acts.acts ≡ Got f ∷ map Sent (first_frames 1 (answer_room f) old mid)
    = c.push_sent.ensures.acts
    ∙ (ap (λ (x : List Act). x ++ sent_in (vec_capacity c.in_ok-spare.spare) (slice_get queue c.queue_len-place.result)) began
    ∙ (ap (λ (n : ℕ). Got f ∷ sent_in n (slice_get queue c.queue_len-place.result)) room
    ∙ (ap (λ (n : ℕ). Got f ∷ sent_in (answer_room f) (slice_get queue n)) place
    ∙ (ap (λ (v : Core). Got f ∷ sent_in (answer_room f) (slice_get v.station.queue (length old.station.queue))) c.self-2.view_is
    ∙ ap (λ (x : List Act). Got f ∷ x) (sent_first (answer_room f) (length old.station.queue) mid.station.queue))))) in
    let acts : map act_of c.into_vec.result.items ≡ Got f ∷ (map Sent (first_frames 1 (answer_room f) old mid) ++ map Told now)
    = ap (map act_of) c.into_vec.ensures ∙ (c.push_told.ensures ∙ ap (λ (x : List Act). x ++ map Told now) sent) in
    subst (λ (v : Core). KeepsHeld old v (Got f) (map act_of c.into_vec.result.items)) (sym same)
    (written_held old mid (Got f) now c.in-Some._answered 1 (answer_room f) _ few does c.in-Some.ensures.queues acts)
