-- A frame that isn't data of an open connection: the acts are what it calls for, and the core fits them.
use Rattle.std.specs.Prelude.{◌≡◌, ℕ, ◌<◌, ◌≤◌, ◌&&◌, not, Bool, true, false, List, [], ◌∷◌, ◌++◌, length, map, take, drop, filter, filter_map, slice_get, refl, Some, if◌then◌else◌}
use Rattle.std.specs.List.{list_all}
use Rattle.std.proofs.Common.{ap, sym, ◌∙◌, subst, arith}
use Rattle.std.proofs.lemmas.Bool.{and_parts}
use Rattle.mux_frame.specs.Frames.{Frame}
use Rattle.mux_station.specs.declared.role.Role.{Role}
use Rattle.mux_station.specs.declared.role.Role.TheVariants.{Initiator}
use Rattle.mux_station.specs.declared.role.ChannelState.{ChannelState}
use Rattle.mux_station.specs.declared.noted.Noted.{Noted}
use Rattle.mux_station.specs.Acts as station
use Rattle.mux_station.specs.Written.{is_data_frame}
use Rattle.mux_station.specs.Messages.{message_in}
use Rattle.mux_station.specs.States.{State, IsShut, IsOpening, IsOpened, IsClosing, IsStopping, is_opened, state_of}
use Rattle.mux_station.specs.Stages.{as_shown}
use Rattle.mux_station.specs.Sending.{Waiting, queue, station_view as station_seen, called_frames as station_calls}
use Rattle.mux_station.specs.Noting.{noted_of, says_open}
use Rattle.mux_station.specs.Stations.{Station, channel_at, setting_of}
use Rattle.mux_station.specs.Fitting as station_fits
use Rattle.at_text.specs.Lines.{lines}
use Rattle.at_text.specs.declared.unsolicited.UrcKind.{UrcKind}
use Rattle.modem_desk.specs.declared.request.Ask.{Ask}
use Rattle.modem_desk.specs.declared.request.Ask.TheVariants.{OpenChannel, CloseChannel, Command, Probe, Stop}
use Rattle.modem_desk.specs.declared.request.Request.{Request}
use Rattle.modem_core.specs.declared.telling.Happened.TheVariants as happened
use Rattle.modem_history.specs.Acts.{Act, Took, Got, Sent, Told, Heard, Tick, Lost, Held, Freed, Given, act_of, wire, after, in_hand}
use Rattle.modem_history.specs.Calls.{Setting, HistoryView, seen, calls, is_lost, ticks_since, lines_said, by_lines, first_on, tolds, told_later, probe_answer}
use Rattle.modem_core.specs.Telling.{told_by, told_to, left_by, probe_noted}
use Rattle.modem_core.specs.Cores as cores
use Rattle.modem_core.specs.Cores.{Core, Runs, RunsUnless, Fits, IsRun, IsSettingOf, MayCome, GoesOn, Handles, state_shown, probe_or, probe_in}
use Rattle.modem_core.specs.Doing.{QueuesAtMost, new_frames}
use Rattle.modem_core.specs.Receiving.{sent_in, answer_room, afresh_if, brings_data, cut_to, reads_data, fits_in, HasRoom}
use Rattle.mux_station.specs.Tables.{have_room, octets_of, by_frame}
use Rattle.modem_history.proofs.calls.CalledActs.{Saids, calls_said}
use Rattle.modem_history.specs.Wholes.{is_said}
use Rattle.modem_history.proofs.requests.RequestsAfterCalls.{stays}
use Rattle.modem_history.proofs.calls.CallEnds.{frames_in, now_in, ended}
use Rattle.modem_history.proofs.requests.StepOfFrame.{is_read, unread_hand}
use Rattle.modem_core.proofs.requests.LaterOutcomes.{AllSay, has_ended, later_where, tolds_are}
use Rattle.modem_core.proofs.cores.WholeCalls as runs
use Rattle.modem_core.proofs.cores.WholeCalls.{lost_on, hand_distinct}
use Rattle.modem_core.proofs.cores.LineLoss.{stays_left}
use Rattle.modem_core.proofs.cores.StationPasts.{state_seen, by_frame_seen, queue_seen}
use Rattle.modem_core.proofs.outgoing.CoreAfterFrame.{IsSound, own, own_is, running, state_in}
use Rattle.modem_core.proofs.probes.OneProbe.{one_probe, probes}
use Rattle.modem_core.proofs.probes.ProbeAnswers.{EachProbe, each_probe, probe_says, probe_still_left, still}
use Rattle.modem_core.proofs.probes.ProbeAfterFrame.{needs_open, probe_then}
use Rattle.modem_core.proofs.frames.StationAfterFrame.{cut_one, seen_then, same_then, now_then, shown_then, sent_there, sent_whole, frames_short, queued_since}
use Rattle.modem_core.proofs.frames.LanesAfterFrame.{opens_noted, other_lanes}
use Rattle.modem_core.proofs.requests.WaitingRequests.{left_waits}

-- ## Ticks

-- no tick comes, and nothing is taken, with what is said
pub ticks_said : (q : Request) (acts past : List Act) → Saids acts → ticks_since q (after past acts) ≡ ticks_since q past
ticks_said q [] past h = refl
ticks_said q (Sent f ∷ acts) past h = ticks_said q acts (Sent f ∷ past) (and_parts (is_said (Sent f)) (list_all is_said acts) h).1
ticks_said q (Told o ∷ acts) past h = ticks_said q acts (Told o ∷ past) h
ticks_said q (Heard k d line ∷ acts) past h = ticks_said q acts (Heard k d line ∷ past) h
ticks_said q (Took r ∷ acts) past h = absurd (let e : false ≡ true = h in cc)
ticks_said q (Got f ∷ acts) past h = absurd (let e : false ≡ true = h in cc)
ticks_said q (Tick ∷ acts) past h = absurd (let e : false ≡ true = h in cc)
ticks_said q (Lost ∷ acts) past h = absurd (let e : false ≡ true = h in cc)
ticks_said q (Held d ∷ acts) past h = absurd (let e : false ≡ true = h in cc)
ticks_said q (Freed d ∷ acts) past h = absurd (let e : false ≡ true = h in cc)
ticks_said q (Given ∷ acts) past h = absurd (let e : false ≡ true = h in cc)

-- with the same ticks behind each request the probe in hand is the same
pub probe_along : (past then_past : List Act) → ((r : Request) → ticks_since r then_past ≡ ticks_since r past) → (rs : List Request) → probe_in then_past rs ≡ probe_in past rs
probe_along past then_past h [] = refl
probe_along past then_past h (r ∷ rs) = by_ask r.ask (probe_along past then_past h rs)
  where
    by_ask : (ask : Ask) → probe_in then_past rs ≡ probe_in past rs → probe_or then_past r ask (probe_in then_past rs) ≡ probe_or past r ask (probe_in past rs)
    by_ask (Probe octets) k = ap (λ (n : ℕ). let w : Waiting = record { data_octets = octets; ticks = n } in Some w) (h r)
    by_ask (OpenChannel d) k = k
    by_ask (CloseChannel d) k = k
    by_ask (Command d line) k = k
    by_ask Stop k = k

-- ## What the call knows

pub record OtherCame (old new : Core) (f : Frame) (n : Noted) (st : Station) (ended : Bool) (acts : List Act) : Type 0 where
  pub live : old.lost ≡ false
  pub unread : reads_data old f ≡ false
  pub in_range : f.dlci < 62
  pub handles : station_fits.StationHandles old.station st (station.Got f)
  pub noted_is : (past : List station.Act) → station_fits.StationFits old.station past → n ≡ noted_of old.station.role (station_seen (setting_of old.station) past) f
  pub ended_is : ended ≡ (cores.shows_opened (as_shown (channel_at old.station 0).state) && not (cores.shows_opened (as_shown (channel_at st 0).state)))
  pub new_is : new ≡ record old { station = st; lanes = afresh_if (says_open n) f.dlci old.lanes; hand = left_by (told_by (happened.Got n) ended (λ d. state_shown st false d)) old.hand }
  pub acts_are : acts ≡ Got f ∷ (sent_in (answer_room f) (slice_get st.queue (length old.station.queue)) ++ map act_of (told_to (told_by (happened.Got n) ended (λ d. state_shown st false d)) old.hand))

-- Opened is shown just where a connection is Opened
pub shown_opened : (x : State) → cores.shows_opened (as_shown x) ≡ is_opened x
shown_opened IsShut = refl
shown_opened (IsOpening n) = refl
shown_opened IsOpened = refl
shown_opened (IsClosing n) = refl
shown_opened (IsStopping n) = refl

-- that 0 was Opened and isn't any more is seen in the history just where the station shows it
pub same_ended : (v : Core) (l : UrcKind → Bool) (past : List Act) (r : Runs v past) (f : Frame) (st : Station) → IsSound v → is_lost past ≡ false → st.role ≡ Initiator → station_fits.StationFits st (seen_then v r.seen f)
    → has_ended (seen (own v l) past) (now_in (own v l) past (Got f)) ≡ (cores.shows_opened (as_shown (channel_at v.station 0).state) && not (cores.shows_opened (as_shown (channel_at st 0).state)))
same_ended v l past r f st i live role h =
    let before : is_opened (state_of Initiator 0 (wire past)) ≡ cores.shows_opened (as_shown (channel_at v.station 0).state)
    = ap is_opened (sym (state_in v.station r.seen 0 i.role_is r.fits (omega arith) ∙ state_seen Initiator 0 r.seen past r.same)) ∙ sym (shown_opened (channel_at v.station 0).state) in
    let now : is_opened (now_in (own v l) past (Got f) 0) ≡ cores.shows_opened (as_shown (channel_at st 0).state)
    = ap is_opened (now_then v l past r f i live 0 ∙ sym (state_in st (seen_then v r.seen f) 0 role h (omega arith))) ∙ sym (shown_opened (channel_at st 0).state) in
    ap (λ (b : Bool). b && not (is_opened (now_in (own v l) past (Got f) 0))) before ∙ ap (λ (b : Bool). cores.shows_opened (as_shown (channel_at v.station 0).state) && not b) now

-- ## Each is told what the frame calls for

all_where : (v : HistoryView) (now : ℕ → State) (f : Frame) (n : Noted) (shown : ℕ → ChannelState) → ((d : ℕ) → d < 62 → as_shown (now d) ≡ shown d) → (rs : List Request)
    → EachProbe (λ octets. is_opened (now 0) ≡ true → probe_answer octets (message_in f) ≡ probe_noted n) rs → AllSay v now (Got f) (told_by (happened.Got n) (has_ended v now) shown) rs
all_where v now f n shown e [] p = tt
all_where v now f n shown e (r ∷ rs) p =
    (later_where v now (Got f) (happened.Got n) shown (record { cause_is = λ why. refl; stop_is = refl }) e r r.ask (λ octets g z. p.0 octets g z), all_where v now f n shown e rs p.1)

-- what a probe is told, by what is noted
pub noted_says : (v : Core) (past : List Act) (r : Runs v past) (f : Frame) (n : Noted) → IsSound v
    → ((seen : List station.Act) → station_fits.StationFits v.station seen → n ≡ noted_of v.station.role (station_seen (setting_of v.station) seen) f) → (w : Waiting) → v.station.probe ≡ Some w
    → probe_answer w.data_octets (message_in f) ≡ probe_noted n
noted_says v past r f n i noted w p =
    let x = station_seen (setting_of v.station) r.seen in
    probe_says x w f (r.fits.probe_is ∙ p) (needs_open (setting_of v.station) r.seen w (r.fits.probe_is ∙ p))
    ∙ ap probe_noted (sym (noted r.seen r.fits ∙ ap (λ (y : Role). noted_of y x f) i.role_is))

-- each request in hand is told what the frame calls for
pub all_told : (v : Core) (l : UrcKind → Bool) (past : List Act) (r : Runs v past) (f : Frame) (n : Noted) (st : Station) → IsSound v → is_lost past ≡ false → in_hand past ≡ v.hand → IsRun (own v l) past
    → st.role ≡ Initiator → station_fits.StationFits st (seen_then v r.seen f)
    → ((seen : List station.Act) → station_fits.StationFits v.station seen → n ≡ noted_of v.station.role (station_seen (setting_of v.station) seen) f)
    → AllSay (seen (own v l) past) (now_in (own v l) past (Got f)) (Got f) (told_by (happened.Got n) (has_ended (seen (own v l) past) (now_in (own v l) past (Got f))) (λ d. state_shown st false d)) v.hand
all_told v l past r f n st i live hand run role h noted =
    let s = own v l in
    let few : probes v.hand ≤ 1 = subst (λ (rs : List Request). probes rs ≤ 1) hand (one_probe s past run) in
    all_where (seen s past) (now_in s past (Got f)) f n (λ d. state_shown st false d) (shown_then v l past r f st i live role h) v.hand
    (each_probe (λ octets. is_opened (now_in s past (Got f) 0) ≡ true → probe_answer octets (message_in f) ≡ probe_noted n) past v.hand few
    (λ w p z. noted_says v past r f n i noted w (sym r.probe_is ∙ p)))

-- ## The whole call

-- a frame is data of an open connection by the history just where it is by the station
pub same_read : (v : Core) (l : UrcKind → Bool) (past : List Act) (r : Runs v past) (f : Frame) → IsSound v → f.dlci < 62 → is_read (own v l) past f ≡ reads_data v f
same_read v l past r f i k =
    ap (λ (x : State). is_opened x && is_data_frame f) (sym (state_in v.station r.seen f.dlci i.role_is r.fits k ∙ state_seen Initiator f.dlci r.seen past r.same))

other_own : (old new : Core) (l : UrcKind → Bool) (past : List Act) (f : Frame) (n : Noted) (st : Station) (ended_now : Bool) (acts : List Act) → IsSound old → OtherCame old new f n st ended_now acts
    → MayCome (own old l) old past (Got f) → GoesOn (own old l) new past (Got f) acts
other_own old new l past f n st ended_now acts i w m =
    let s = own old l in
    let v = seen s past in
    let now = now_in s past (Got f) in
    let live : is_lost past ≡ false = m.fits.lost_is ∙ w.live in
    let r = running old past w.live m.fits in
    let role : st.role ≡ Initiator = ap (λ x. x.role) w.handles.setting ∙ i.role_is in
    let there = w.handles.fits r.seen r.fits in
    let unread : is_read s past f ≡ false = same_read old l past r f i w.in_range ∙ w.unread in
    let fs = frames_in s past (Got f) in
    let shown : ℕ → ChannelState = λ d. state_shown st false d in
    let says = told_by (happened.Got n) ended_now shown in
    let same : has_ended v now ≡ ended_now = same_ended old l past r f st i live role there ∙ sym w.ended_is in
    let all : AllSay v now (Got f) says old.hand
    = subst (λ (b : Bool). AllSay v now (Got f) (told_by (happened.Got n) b shown) old.hand) same (all_told old l past r f n st i live m.fits.hand_is m.run role there w.noted_is) in
    let told : tolds v now (Got f) ≡ map act_of (told_to says old.hand) = ap (filter_map (told_later v now (Got f))) m.fits.hand_is ∙ tolds_are v now (Got f) says old.hand all in
    let none : lines_said s v (Got f) ≡ [] = ap (λ (b : Bool). if b then by_lines s f.dlci (first_on f.dlci v.waiting) (v.marks f.dlci) (lines (v.run f.dlci ++ f.info)) else []) unread in
    let sent : sent_in (answer_room f) (slice_get st.queue (length old.station.queue)) ≡ map Sent fs
    = ap (sent_in (answer_room f)) (sent_there old l past r f st i live there) ∙ sym (sent_whole (answer_room f) fs (frames_short s past f refl)) in
    let called : acts ≡ Got f ∷ calls s past (Got f)
    = w.acts_are
    ∙ (ap (λ (x : List Act). Got f ∷ (x ++ map act_of (told_to says old.hand))) sent
    ∙ (ap (λ (x : List Act). Got f ∷ (map Sent fs ++ x)) (sym told) ∙ ap (λ (x : List Act). Got f ∷ (map Sent fs ++ (x ++ tolds v now (Got f)))) (sym none))) in
    let hand : in_hand (ended s past (Got f)) ≡ left_by says old.hand
    = unread_hand s past f unread (hand_distinct s past m.run) ∙ (ap (filter (stays v now (Got f))) m.fits.hand_is ∙ stays_left v now (Got f) says old.hand all) in
    let few : probes old.hand ≤ 1 = subst (λ (rs : List Request). probes rs ≤ 1) m.fits.hand_is (one_probe s past m.run) in
    let after_it : Core = record old { station = st; lanes = afresh_if (says_open n) f.dlci old.lanes; hand = left_by says old.hand } in
    let goes : Runs after_it (ended s past (Got f)) = record {
      seen = seen_then old r.seen f;
      fits = there;
      same = same_then old l past r f i live;
      waits = left_waits (happened.Got n) ended_now shown old.hand;
      probe_is =
          probe_along past (ended s past (Got f)) (λ q. ticks_said q (calls s past (Got f)) (Got f ∷ past) (calls_said s v (Got f))) (left_by says old.hand)
          ∙ (probe_still_left says past old.hand few
          ∙ (ap (still says) r.probe_is ∙ sym (probe_then old.station st r.seen f (station_calls (setting_of old.station) r.seen (station.Got f)) n ended_now i.role_is w.handles.setting r.fits there (noted_says old past r f n i w.noted_is))));
      lanes_fit = other_lanes old l past r f (says_open n) i w.in_range unread (opens_noted old.station r.seen f n i.role_is r.fits w.in_range (w.noted_is r.seen r.fits));
    } in
    let fits : Fits after_it (ended s past (Got f)) = record { hand_is = hand; lost_is = lost_on s past (Got f) ∙ m.fits.lost_is; runs = subst (λ (b : Bool). RunsUnless b after_it (ended s past (Got f))) (sym w.live) goes } in
    let setting : IsSettingOf s after_it = record { role_is = refl; n1_is = ap (λ x. x.n1) (sym w.handles.setting); dialect_is = refl; listens_are = m.setting.listens_are } in
    record {
      called = called;
      setting = subst (λ (x : Core). IsSettingOf s x) (sym w.new_is) setting;
      fits = subst (λ (x : Core). Fits x (after past acts)) (sym w.new_is) (subst (λ (x : List Act). Fits after_it (after past x)) (sym called) fits);
      run = subst (λ (x : List Act). IsRun s (after past x)) (sym called) (runs.run_on s past (Got f) refl tt m.run m.numbers);
    }

-- the same acts, where what was sent is read off the control queue
pub other_since : (old new : Core) (f : Frame) (n : Noted) (st : Station) (ended_now : Bool) (acts : List Act) → IsSound old → OtherCame old new f n st ended_now acts
    → Handles old new (Got f) (Got f ∷ (map Sent (drop (length old.station.queue) st.queue) ++ map act_of (told_to (told_by (happened.Got n) ended_now (λ d. state_shown st false d)) old.hand)))
unfolding Handles
other_since old new f n st ended_now acts i w s past m =
    let e = own_is s old m.setting in
    let may = subst (λ (x : Setting). MayCome x old past (Got f)) e m in
    let live : is_lost past ≡ false = may.fits.lost_is ∙ w.live in
    let r = running old past w.live may.fits in
    let told = map act_of (told_to (told_by (happened.Got n) ended_now (λ d. state_shown st false d)) old.hand) in
    let there = w.handles.fits r.seen r.fits in
    let fs = frames_in (own old s.listens) past (Got f) in
    let since : map Sent (drop (length old.station.queue) st.queue) ≡ map Sent fs = ap (map Sent) (queued_since old s.listens past r f st i live there) in
    let whole : map Sent fs ≡ sent_in (answer_room f) (slice_get st.queue (length old.station.queue))
    = sent_whole (answer_room f) fs (frames_short (own old s.listens) past f refl) ∙ sym (ap (sent_in (answer_room f)) (sent_there old s.listens past r f st i live there)) in
    let same : acts ≡ Got f ∷ (map Sent (drop (length old.station.queue) st.queue) ++ told)
    = w.acts_are ∙ ap (λ (x : List Act). Got f ∷ (x ++ told)) (sym (since ∙ whole)) in
    subst (λ (x : List Act). GoesOn s new past (Got f) x) same
    (subst (λ (x : Setting). GoesOn x new past (Got f) acts) (sym e) (other_own old new s.listens past f n st ended_now acts i w may))

-- one frame at most is queued, with the information of the one that came or four octets
pub other_queues : (old new : Core) (f : Frame) (n : Noted) (st : Station) (ended_now : Bool) (acts : List Act) → IsSound old → OtherCame old new f n st ended_now acts → QueuesAtMost 1 (answer_room f) old new (Got f)
unfolding QueuesAtMost
other_queues old new f n st ended_now acts i w s past m =
    let e = own_is s old m.setting in
    let may = subst (λ (x : Setting). MayCome x old past (Got f)) e m in
    let live : is_lost past ≡ false = may.fits.lost_is ∙ w.live in
    let r = running old past w.live may.fits in
    let there = w.handles.fits r.seen r.fits in
    let fs = frames_in (own old s.listens) past (Got f) in
    let since : new_frames old new ≡ fs = ap (λ (v : Core). drop (length old.station.queue) v.station.queue) w.new_is ∙ queued_since old s.listens past r f st i live there in
    subst (λ (gs : List Frame). map (cut_to (answer_room f)) (take 1 gs) ≡ gs) (sym since) (cut_one (answer_room f) fs (frames_short (own old s.listens) past f refl))

-- while the line isn't lost, what brings no data isn't read, and what brings some is
pub unread_live : (v : Core) (f : Frame) → v.lost ≡ false → brings_data v f ≡ false → reads_data v f ≡ false
unread_live v f live h = sym (ap (λ (b : Bool). not b && reads_data v f) live) ∙ h

-- what brings data is read
pub read_in : (v : Core) (f : Frame) → brings_data v f ≡ true → reads_data v f ≡ true
read_in v f h = (and_parts (not v.lost) (reads_data v f) h).1

-- and only while the line isn't lost
pub live_in : (v : Core) (f : Frame) → brings_data v f ≡ true → v.lost ≡ false
live_in v f h = not_so v.lost (and_parts (not v.lost) (reads_data v f) h).0
  where
    not_so : (b : Bool) → not b ≡ true → b ≡ false
    not_so false e = refl
    not_so true e = cc

-- ## Room

-- whether the control queue has room for what the frame calls for is the same by every past
pub room_is : (v : Core) (f : Frame) (b : Bool) → IsSound v → v.lost ≡ false → f.dlci < 62 → have_room v.station.n1 (octets_of v.station.queue) (by_frame v.station.role (λ d. (channel_at v.station d).state) f) ≡ b → HasRoom v (Got f) b
unfolding HasRoom
room_is v f b i n k e s past m =
    let live : is_lost past ≡ false = m.fits.lost_is ∙ n in
    let r = running v past n m.fits in
    let state : (d : ℕ) → d < 62 → state_of Initiator d (wire past) ≡ (channel_at v.station d).state = λ d l. sym (state_in v.station r.seen d i.role_is r.fits l ∙ state_seen Initiator d r.seen past r.same) in
    let frames_are : by_frame Initiator (λ d. state_of Initiator d (wire past)) f ≡ by_frame v.station.role (λ d. (channel_at v.station d).state) f
    = by_frame_seen Initiator f (λ d. state_of Initiator d (wire past)) (λ d. (channel_at v.station d).state) (state 0 (omega arith)) (state f.dlci k) ∙ ap (λ (x : Role). by_frame x (λ d. (channel_at v.station d).state) f) (sym i.role_is) in
    let queue_is : queue (wire past) ≡ v.station.queue = sym (queue_seen r.seen past r.same) ∙ r.fits.queue_is in
    ap (λ (x : Setting). fits_in x past (Got f)) (own_is s v m.setting)
    ∙ (ap (λ (c : Bool). have_room v.station.n1 (octets_of (queue (wire past))) (if c then [] else by_frame Initiator (λ d. state_of Initiator d (wire past)) f)) live
    ∙ (ap (λ (q : List Frame). have_room v.station.n1 (octets_of q) (by_frame Initiator (λ d. state_of Initiator d (wire past)) f)) queue_is
    ∙ (ap (have_room v.station.n1 (octets_of v.station.queue)) frames_are ∙ e)))
