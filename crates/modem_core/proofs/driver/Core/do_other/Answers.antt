-- A frame that isn't data of an open connection is handled.
use Rattle.std.proofs.Common.{◌≡◌, Bool, List, ◌∷◌, ◌++◌, length, ◌∙◌, ap, sym, subst, true, false}
use Rattle.std.specs.Prelude.{refl, drop, map, slice_get, ◌&&◌, not}
use Rattle.mux_frame.specs.Frames.{frame_of}
use Rattle.mux_station.specs.declared.role.ChannelState.{ChannelState}
use Rattle.mux_station.specs.Noting.{says_open}
use Rattle.mux_station.specs.Tables.{have_room, octets_of, by_frame}
use Rattle.mux_station.specs.Stages.{as_shown}
use Rattle.mux_station.specs.Stations.{Station, channel_at, seen_in}
use Rattle.modem_desk.specs.declared.request.Request.{Request}
use Rattle.modem_core.specs.declared.telling.Happened.TheVariants as happened
use Rattle.modem_history.specs.Acts.{Act, Got, Sent, act_of}
use Rattle.modem_core.specs.Doing.{Adds, Does, QueuesAtMost, outcomes_to, stop_in}
use Rattle.modem_queues.specs.Stops.{is_answered}
use Rattle.modem_core.proofs.cores.DoneCalls.{does_telling, lost_does, none_queued}
use Rattle.modem_core.specs.Cores as cores
use Rattle.modem_core.specs.Cores.{Core, Handles, state_shown}
use Rattle.modem_core.specs.Telling.{told_by, told_to, left_by}
use Rattle.modem_core.specs.Receiving.{HasRoom, sent_in, answer_room, afresh_if, brings_data}
use Rattle.modem_core.proofs.cores.FramesAfterLoss.{lost_room}
use Rattle.modem_core.proofs.holds.HoldsAndFrames.{other_holds}
use Rattle.modem_core.proofs.outgoing.CoreAfterFrame.{sound}
use Rattle.modem_core.proofs.frames.OtherFrames.{OtherCame, other_queues, other_since, unread_live}
use Rattle.modem_core.proofs.driver.Core.do_other.Goals as goal

pub has_live_room-requires-clause-live : goal.has_live_room-requires-clause-live
has_live_room-requires-clause-live c = ap (λ (v : Core). v.lost) (sym c.self.view_is) ∙ c.if-self.false

pub take-noted-requires-clause-room : goal.take-noted-requires-clause-room
take-noted-requires-clause-room c =
    let f = frame_of c.args.frame in
    subst (λ (v : Core). have_room v.station.n1 (octets_of v.station.queue) (by_frame v.station.role (seen_in v.station).state f) ≡ true) (sym c.self.view_is)
    (sym c.has_live_room.ensures.by_station ∙ c.if-not-has_live_room.false)

pub returns-then-not-has_live_room-clause-no_room : goal.returns-then-not-has_live_room-clause-no_room
returns-then-not-has_live_room-clause-no_room c =
    subst (λ (b : Bool). HasRoom c.args.self.now (Got (frame_of c.args.frame)) b) c.if-not-has_live_room.true c.has_live_room.ensures.room

pub returns-then-self-clause-does : goal.returns-then-self-clause-does
returns-then-self-clause-does c =
    lost_does c.args.self.now (frame_of c.args.frame) c.args.told.now.items (ap (λ (v : Core). v.lost) (sym c.self.view_is) ∙ c.if-self.true)

pub returns-then-self-clause-queues : goal.returns-then-self-clause-queues
returns-then-self-clause-queues c =
    let f = frame_of c.args.frame in
    none_queued 1 (answer_room f) c.args.self.now c.args.self.now (Got f) refl

pub returns-then-self-clause-has_room : goal.returns-then-self-clause-has_room
returns-then-self-clause-has_room c = lost_room c.args.self.now (frame_of c.args.frame) (ap (λ (v : Core). v.lost) (sym c.self.view_is) ∙ c.if-self.true)

pub returns-clause-does : goal.returns-clause-does
returns-clause-does c =
    let old : Core = record { station = c.self.inside.station; lanes = c.self.inside.lanes; hand = c.self.inside.hand; rules = c.self.inside.dialect; kinds = c.self.inside.kinds.items; lost = c.self.inside.lost } in
    let f = frame_of c.args.frame in
    let n = c.take-noted.result in
    let st = c.take-noted.new.station in
    let ended = c.has_ended-ended.result in
    let says = told_by (happened.Got n) ended (λ d. state_shown st false d) in
    let new = c.start_lane.new.self in
    let live : old.lost ≡ false = c.if-self.false in
    let hand : c.tell_on-answered.new.hand ≡ left_by says old.hand
    = c.tell_on-answered.ensures.hand ∙ ap (λ (b : Bool). left_by (told_by (happened.Got n) ended (λ d. state_shown st b d)) old.hand) live in
    let ended_is : ended ≡ (cores.shows_opened (as_shown (channel_at old.station 0).state) && not (cores.shows_opened (as_shown (channel_at st 0).state)))
    = c.has_ended-ended.ensures
    ∙ (ap (λ (x : ChannelState). cores.shows_opened x && not (cores.shows_opened c.state.result)) c.state-before.ensures.value
    ∙ ap (λ (x : ChannelState). cores.shows_opened (as_shown (channel_at old.station 0).state) && not (cores.shows_opened x)) c.state.ensures.value) in
    let new_is : new ≡ record old { station = st; lanes = afresh_if (says_open n) f.dlci old.lanes; hand = left_by says old.hand }
    = c.start_lane.ensures
    ∙ (ap (λ (b : Bool). let v : Core = record old { station = st; lanes = afresh_if b f.dlci old.lanes; hand = c.tell_on-answered.new.hand } in v) c.opens.ensures
    ∙ ap (λ (w : List Request). let v : Core = record old { station = st; lanes = afresh_if (says_open n) f.dlci old.lanes; hand = w } in v) hand) in
    let came : OtherCame old new f n st ended (Got f ∷ (sent_in (answer_room f) (slice_get st.queue (length old.station.queue)) ++ map act_of (told_to says old.hand))) = record {
      live = live;
      unread = unread_live old f live (ap (λ (v : Core). brings_data v f) c.self.view_is ∙ c.requires.no_data);
      in_range = c.args.frame.dlci.in_range;
      handles = c.take-noted.ensures.past;
      noted_is = c.take-noted.ensures.noted;
      ended_is = ended_is;
      new_is = new_is;
      acts_are = refl;
    } in
    let sound_old = sound old c.self.inside.n1 c.self.invariant in
    let same : st ≡ new.station = sym (ap (λ (v : Core). v.station) new_is) in
    let said : List Act = map act_of (told_to says old.hand) in
    let past : Handles old new (Got f) (Got f ∷ (map Sent (drop (length old.station.queue) new.station.queue) ++ said))
    = subst (λ (x : Station). Handles old new (Got f) (Got f ∷ (map Sent (drop (length old.station.queue) x.queue) ++ said))) same (other_since old new f n st ended _ sound_old came) in
    let lanes : new.lanes ≡ afresh_if (says_open n) f.dlci old.lanes = ap (λ (v : Core). v.lanes) new_is in
    let says_so = λ (b : Bool). told_by (happened.Got n) ended (λ d. state_shown st b d) in
    subst (λ (v : Core). Does v new c.args.told.now.items c.tell_on-answered.new.told.items (Got f) c.tell_on-answered.result) c.self.view_is
    (does_telling old new c.args.told.now.items c.tell_on-answered.new.told.items (Got f) c.tell_on-answered.result says (λ s. refl) past
    (other_holds old new f n _ sound_old live c.args.frame.dlci.in_range c.take-noted.ensures.noted lanes past)
    (subst (λ (b : Bool). Adds c.args.told.now.items c.tell_on-answered.new.told.items (outcomes_to (says_so b) old.hand)) live c.tell_on-answered.ensures.adds)
    (subst (λ (b : Bool). c.tell_on-answered.result ≡ is_answered (stop_in old) (map act_of (told_to (says_so b) old.hand))) live c.tell_on-answered.ensures.answered))

pub returns-clause-has_room : goal.returns-clause-has_room
returns-clause-has_room c =
    subst (λ (b : Bool). HasRoom c.args.self.now (Got (frame_of c.args.frame)) b) c.if-not-has_live_room.false c.has_live_room.ensures.room

pub returns-clause-queues : goal.returns-clause-queues
returns-clause-queues c =
    let old : Core = record { station = c.self.inside.station; lanes = c.self.inside.lanes; hand = c.self.inside.hand; rules = c.self.inside.dialect; kinds = c.self.inside.kinds.items; lost = c.self.inside.lost } in
    let f = frame_of c.args.frame in
    let n = c.take-noted.result in
    let st = c.take-noted.new.station in
    let ended = c.has_ended-ended.result in
    let says = told_by (happened.Got n) ended (λ d. state_shown st false d) in
    let new = c.start_lane.new.self in
    let live : old.lost ≡ false = c.if-self.false in
    let hand : c.tell_on-answered.new.hand ≡ left_by says old.hand
    = c.tell_on-answered.ensures.hand ∙ ap (λ (b : Bool). left_by (told_by (happened.Got n) ended (λ d. state_shown st b d)) old.hand) live in
    let ended_is : ended ≡ (cores.shows_opened (as_shown (channel_at old.station 0).state) && not (cores.shows_opened (as_shown (channel_at st 0).state)))
    = c.has_ended-ended.ensures
    ∙ (ap (λ (x : ChannelState). cores.shows_opened x && not (cores.shows_opened c.state.result)) c.state-before.ensures.value
    ∙ ap (λ (x : ChannelState). cores.shows_opened (as_shown (channel_at old.station 0).state) && not (cores.shows_opened x)) c.state.ensures.value) in
    let new_is : new ≡ record old { station = st; lanes = afresh_if (says_open n) f.dlci old.lanes; hand = left_by says old.hand }
    = c.start_lane.ensures
    ∙ (ap (λ (b : Bool). let v : Core = record old { station = st; lanes = afresh_if b f.dlci old.lanes; hand = c.tell_on-answered.new.hand } in v) c.opens.ensures
    ∙ ap (λ (w : List Request). let v : Core = record old { station = st; lanes = afresh_if (says_open n) f.dlci old.lanes; hand = w } in v) hand) in
    let came : OtherCame old new f n st ended (Got f ∷ (sent_in (answer_room f) (slice_get st.queue (length old.station.queue)) ++ map act_of (told_to says old.hand))) = record {
      live = live;
      unread = unread_live old f live (ap (λ (v : Core). brings_data v f) c.self.view_is ∙ c.requires.no_data);
      in_range = c.args.frame.dlci.in_range;
      handles = c.take-noted.ensures.past;
      noted_is = c.take-noted.ensures.noted;
      ended_is = ended_is;
      new_is = new_is;
      acts_are = refl;
    } in
    subst (λ (v : Core). QueuesAtMost 1 (answer_room f) v new (Got f)) c.self.view_is
    (other_queues old new f n st ended _ (sound old c.self.inside.n1 c.self.invariant) came)
