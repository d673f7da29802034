-- A frame and all that it calls for lead from each past that the station fits to one that it fits.
use Rattle.std.specs.Prelude.{◌≡◌, ℕ, ◌+◌, ◌*◌, ◌<◌, ◌==◌, ◌&&◌, ◌||◌, not, Bool, true, false, List, [], ◌∷◌, ◌++◌, length, refl, if◌then◌else◌, Option, Some, None, unwrap_or, Result, Ok, Err, OnOk, IfOk}
use Rattle.std.proofs.Common.{◌∙◌, ap, sym, subst, eqb-true, arith, append-nil, append_assoc}
use Rattle.std.proofs.lemmas.Bool.{and_parts}
use Rattle.mux_frame.specs.Frames.{Frame}
use Rattle.mux_frame.specs.declared.frame.Kind.{Kind}
use Rattle.mux_frame.specs.declared.frame.Kind.TheVariants.{Sabm, Ua, Dm, Disc, Uih}
use Rattle.mux_station.specs.declared.role.Role.{Role}
use Rattle.mux_station.specs.declared.role.Role.TheVariants.{Initiator, Responder}
use Rattle.mux_station.specs.declared.row.Turn.{Turn}
use Rattle.mux_station.specs.declared.row.Turn.TheVariants.{Stays, Opens, Shuts}
use Rattle.mux_station.specs.declared.noted.Noted.{Noted}
use Rattle.mux_station.specs.declared.error.StationError.{StationError}
use Rattle.mux_station.specs.declared.error.StationError.TheVariants.{NoRoom}
use Rattle.mux_station.specs.Written.{is_kind, is_on, written, is_data_frame}
use Rattle.mux_station.specs.Messages.{Message, message_of, command_of, is_command, response_of, cld, nsc, test, fcoff, fcon, msc, brings_command}
use Rattle.mux_station.specs.Acts.{Act, Got, Sent}
use Rattle.mux_station.specs.States.{State, IsShut, IsOpening, IsOpened, IsClosing, IsStopping, is_opened, at_sent, got_by, state_of}
use Rattle.mux_station.specs.Tables.{message_frame, msc_frame, ready, ua_or_dm, msc_after_opening, is_opening, by_table, is_supported, response, by_message, by_frame, have_room}
use Rattle.mux_station.specs.Sending.{StationSetting, Waiting, station_view, queue, called_frames, frames_seeing, sent_after, after_act, without_room}
use Rattle.mux_station.specs.Stopping.{flow_says}
use Rattle.mux_station.specs.Offering.{last_sender}
use Rattle.mux_station.specs.Stations.{Station, channel_at, setting_of, seen_in}
use Rattle.mux_station.specs.Fitting.{StationFits, StationHandles, SeesTheFrame}
use Rattle.mux_station.specs.Ticking.{turned_in}
use Rattle.mux_station.specs.Noting.{noted_by_table, noted_by_message, noted_of}
use Rattle.mux_station.specs.Getting.{all_turned_in, turned_by, queued_in, message_calls, message_taken, stops_set, probe_answered, FollowsTable, FrameTaken, TurnsBy}
use Rattle.mux_station.proofs.user_calls.CallFrames.{state_sent, state_sent_uih, fits_sent, all_sent, probe_sent}
use Rattle.mux_station.proofs.user_calls.OpenAndClose.{stop_in_past, seen_state, seen_queued}
use Rattle.mux_station.proofs.user_calls.ProbeStopFlowOffer.{no_close_down}
use Rattle.mux_station.proofs.received.StatesAfterFrames.{called_by, state_own}
use Rattle.mux_station.proofs.received.TableFrames.{table_fits}
use Rattle.mux_station.proofs.received.MessageFrames.{message_fits}

-- ## Control frames that change no state

record Still (r : Role) (p : List Act) (g : Frame) : Type 0 where
  control : is_data_frame g ≡ false
  no_sabm : (e : ℕ) → is_on Sabm e g ≡ false
  state : (e : ℕ) → state_of r e (Sent g ∷ p) ≡ state_of r e p

abbrev AllStill : Role → List Act → List Frame → Type 0
AllStill r p [] = Unit {0}
AllStill r p (g ∷ gs) = Still r p g × AllStill r (Sent g ∷ p) gs

sent_one : (v : Station) (g : Frame) (p : List Act) → Still v.role p g → StationFits v p → StationFits (queued_in v (g ∷ [])) (Sent g ∷ p)
sent_one v g p s h = record {
  live = h.live;
  channels_are = λ e l. fits_sent v.role e p g (channel_at v e) (h.channels_are e l) s.control (s.no_sabm e) (s.state e);
  others_shut = h.others_shut;
  stop_of_all_is = λ o. all_sent v.role p g v.all_stopped (stop_in_past v p h) (s.state 0) (ap is_opened (s.state 0 ∙ (h.channels_are 0 (omega arith)).state_is) ∙ o);
  probe_is = probe_sent (setting_of v) p g (s.state 0) ∙ h.probe_is;
  queue_is = ap (λ (b : Bool). queue p ++ (if b then [] else g ∷ [])) s.control ∙ ap (λ (fs : List Frame). fs ++ g ∷ []) h.queue_is;
  last_is = ap (λ (b : Bool). if b then g.dlci else last_sender p) s.control ∙ h.last_is;
}

sent_all : (v : Station) (gs : List Frame) (p : List Act) → AllStill v.role p gs → StationFits v p → StationFits (queued_in v gs) (sent_after gs p)
sent_all v [] p s h = subst (λ (fs : List Frame). StationFits (record v { queue = fs }) p) (sym (append-nil v.queue)) h
sent_all v (g ∷ gs) p s h =
    subst (λ (fs : List Frame). StationFits (record v { queue = fs }) (sent_after gs (Sent g ∷ p))) (append_assoc v.queue (g ∷ []) gs)
    (sent_all (queued_in v (g ∷ [])) gs (Sent g ∷ p) s.1 (sent_one v g p s.0 h))

-- a message that is no close-down
message_still : (r : Role) (p : List Act) (octet : ℕ) (value : List ℕ) → (octet == cld) ≡ false → Still r p (message_frame r octet value)
message_still r p octet value n = record {
  control = refl;
  no_sabm = λ e. refl;
  state = λ e. state_sent_uih r e p (message_frame r octet value) refl (no_close_down r octet value n) refl;
}

-- a UA or DM on a connection that isn't Opening
at_ua : (s : State) → is_opening s ≡ false → at_sent s Ua ≡ s
at_ua IsShut h = refl
at_ua (IsOpening n) h = cc
at_ua IsOpened h = refl
at_ua (IsClosing n) h = refl
at_ua (IsStopping n) h = refl

at_dm : (s : State) → is_opening s ≡ false → at_sent s Dm ≡ s
at_dm IsShut h = refl
at_dm (IsOpening n) h = cc
at_dm IsOpened h = refl
at_dm (IsClosing n) h = refl
at_dm (IsStopping n) h = refl

sent_state : (r : Role) (d : ℕ) (p : List Act) (g : Frame) → g.dlci ≡ d → brings_command cld g ≡ false → is_on Disc 0 g ≡ false → at_sent (state_of r d p) g.kind ≡ state_of r d p → (e : ℕ) (b : Bool) → (g.dlci == e) ≡ b → state_of r e (Sent g ∷ p) ≡ state_of r e p
sent_state r d p g on c o h e b k =
    state_sent r e p g c o ∙ (ap (λ (x : Bool). if x then at_sent (state_of r e p) g.kind else state_of r e p) k ∙ by_test b k)
  where
    by_test : (x : Bool) → (g.dlci == e) ≡ x → (if x then at_sent (state_of r e p) g.kind else state_of r e p) ≡ state_of r e p
    by_test true k = subst (λ (m : ℕ). at_sent (state_of r m p) g.kind ≡ state_of r m p) (sym on ∙ eqb-true g.dlci e k) h
    by_test false k = refl

mode_answer_still : (r : Role) (d : ℕ) (p : List Act) (b : Bool) → is_opening (state_of r d p) ≡ false → Still r p (ua_or_dm r d b)
mode_answer_still r d p true n = record { control = refl; no_sabm = λ e. refl; state = λ e. sent_state r d p (written r Ua d []) refl refl refl (at_ua (state_of r d p) n) e (d == e) refl }
mode_answer_still r d p false n = record { control = refl; no_sabm = λ e. refl; state = λ e. sent_state r d p (written r Dm d []) refl refl refl (at_dm (state_of r d p) n) e (d == e) refl }

still_if : (r : Role) (p : List Act) (b : Bool) (fs gs : List Frame) → (b ≡ true → AllStill r p fs) → (b ≡ false → AllStill r p gs) → AllStill r p (if b then fs else gs)
still_if r p true fs gs h k = h refl
still_if r p false fs gs h k = k refl

opening_still : (r : Role) (d : ℕ) (p : List Act) → AllStill r p (msc_after_opening r d)
opening_still r d p = still_if r p (d == 0) [] (msc_frame r d ready ∷ []) (λ h. tt) (λ h. (message_still r p msc ((4 * d + 3) ∷ ready ∷ []) refl, tt))

-- after a SABM or DISC no connection is Opening
sabm_settles : (r : Role) (z : Bool) (s : State) → is_opening (got_by r z s Sabm) ≡ false
sabm_settles Initiator z IsShut = refl
sabm_settles Initiator z (IsOpening n) = refl
sabm_settles Initiator z IsOpened = refl
sabm_settles Initiator z (IsClosing n) = refl
sabm_settles Initiator z (IsStopping n) = refl
sabm_settles Responder true s = refl
sabm_settles Responder false s = refl

disc_settles : (r : Role) (z : Bool) (s : State) → is_opening (got_by r z s Disc) ≡ false
disc_settles Initiator z IsShut = refl
disc_settles Initiator z (IsOpening n) = refl
disc_settles Initiator z IsOpened = refl
disc_settles Initiator z (IsClosing n) = refl
disc_settles Initiator z (IsStopping n) = refl
disc_settles Responder z IsShut = refl
disc_settles Responder z (IsOpening n) = refl
disc_settles Responder z IsOpened = refl
disc_settles Responder z (IsClosing n) = refl
disc_settles Responder z (IsStopping n) = refl

-- what the tables call for, where its connection isn't Opening after a SABM or DISC
table_still : (r : Role) (d : ℕ) (channel own : State) (k : Kind) (p : List Act) → (k ≡ Sabm → is_opening (state_of r d p) ≡ false) → (k ≡ Disc → is_opening (state_of r d p) ≡ false) → AllStill r p (by_table r d channel own k)
table_still Initiator d channel own Ua p s t = still_if Initiator p (is_opening own) (msc_after_opening Initiator d) [] (λ h. opening_still Initiator d p) (λ h. tt)
table_still Initiator d channel own Sabm p s t = (mode_answer_still Initiator d p false (s refl), tt)
table_still Initiator d channel own Dm p s t = tt
table_still Initiator d channel own Disc p s t = (mode_answer_still Initiator d p (is_opened own) (t refl), tt)
table_still Initiator d channel own Uih p s t = tt
table_still Responder d channel own Ua p s t = tt
table_still Responder d channel own Sabm p s t =
    still_if Responder p ((d == 0) || is_opened channel) (ua_or_dm Responder d true ∷ msc_after_opening Responder d) (ua_or_dm Responder d false ∷ [])
    (λ h. (mode_answer_still Responder d p true (s refl), opening_still Responder d (Sent (ua_or_dm Responder d true) ∷ p)))
    (λ h. (mode_answer_still Responder d p false (s refl), tt))
table_still Responder d channel own Dm p s t = tt
table_still Responder d channel own Disc p s t = (mode_answer_still Responder d p (is_opened own) (t refl), tt)
table_still Responder d channel own Uih p s t = tt

-- no response is a close-down
other_octet : (octet n : ℕ) → (octet == n) ≡ true → (response_of n == cld) ≡ false → (response_of octet == cld) ≡ false
other_octet octet n e h = ap (λ (m : ℕ). response_of m == cld) (eqb-true octet n e) ∙ h

supported_response : (octet : ℕ) (a b c d e : Bool) → (octet == test) ≡ a → (octet == fcoff) ≡ b → (octet == fcon) ≡ c → (octet == cld) ≡ d → (octet == msc) ≡ e → (a || (b || (c || (d || e)))) ≡ true → (response_of octet == cld) ≡ false
supported_response octet true b c d e i j k l m h = other_octet octet test i refl
supported_response octet false true c d e i j k l m h = other_octet octet fcoff j refl
supported_response octet false false true d e i j k l m h = other_octet octet fcon k refl
supported_response octet false false false true e i j k l m h = other_octet octet cld l refl
supported_response octet false false false false true i j k l m h = other_octet octet msc m refl
supported_response octet false false false false false i j k l m h = cc

response_still : (r : Role) (m : Message) (p : List Act) → AllStill r p (response r m)
response_still r m p =
    still_if r p (is_supported m.octet) (message_frame r (response_of m.octet) m.value ∷ []) _
    (λ h. (message_still r p (response_of m.octet) m.value (supported_response m.octet (m.octet == test) (m.octet == fcoff) (m.octet == fcon) (m.octet == cld) (m.octet == msc) refl refl refl refl refl h), tt))
    (λ h. still_if r p (is_command m && not (m.octet == nsc)) (message_frame r (response_of nsc) (m.octet ∷ []) ∷ []) []
    (λ k. (message_still r p (response_of nsc) (m.octet ∷ []) refl, tt)) (λ k. tt))

calls_still : (r : Role) (z : State) (o : Option Message) (p : List Act) → AllStill r p (message_calls r z o)
calls_still r IsShut o p = tt
calls_still r (IsOpening n) o p = tt
calls_still r (IsClosing n) o p = tt
calls_still r IsOpened None p = tt
calls_still r IsOpened (Some m) p = response_still r m p
calls_still r (IsStopping n) None p = tt
calls_still r (IsStopping n) (Some m) p = still_if r p (m.octet == cld) (response r m) [] (λ h. response_still r m p) (λ h. tt)

-- ## What is called for

-- what a frame calls for, by the state of 0 and of its connection
by_states : Role → State → State → Frame → List Frame
by_states r z s f = if is_on Uih 0 f then by_message r z f else by_table r f.dlci z s f.kind

abbrev none : List Frame
none = []

-- is what it calls for in the station
pub frames_seen : (v : Station) (past : List Act) (f : Frame) → StationFits v past → f.dlci < 62 → by_frame v.role (seen_in v).state f ≡ by_frame v.role (station_view (setting_of v) past).state f
unfolding by_states
frames_seen v past f h l =
    ap (λ (z : State). by_states v.role z (channel_at v f.dlci).state f) (seen_state v past 0 h (omega arith))
    ∙ ap (λ (s : State). by_states v.role (state_of v.role 0 past) s f) (seen_state v past f.dlci h l)

got_calls : (v : Station) (past : List Act) (f : Frame) → StationFits v past → f.dlci < 62 → called_frames (setting_of v) past (Got f) ≡ by_frame v.role (seen_in v).state f
got_calls v past f h l = ap (λ (b : Bool). if b then none else frames_seeing (setting_of v) (station_view (setting_of v) past) (Got f)) h.live ∙ sym (frames_seen v past f h l)

-- ## The frame is handled

turned_queued : (v : Station) (d : ℕ) (t : Turn) (fs : List Frame) → turned_by (queued_in v fs) d t ≡ queued_in (turned_by v d t) fs
turned_queued v d Stays fs = refl
turned_queued v d Opens fs = by_zero (d == 0)
  where
    by_zero : (b : Bool) → (if b then all_turned_in (queued_in v fs) IsOpened else turned_in (queued_in v fs) d IsOpened) ≡ queued_in (if b then all_turned_in v IsOpened else turned_in v d IsOpened) fs
    by_zero true = refl
    by_zero false = refl
turned_queued v d Shuts fs = by_zero (d == 0)
  where
    by_zero : (b : Bool) → (if b then all_turned_in (queued_in v fs) IsShut else turned_in (queued_in v fs) d IsShut) ≡ queued_in (if b then all_turned_in v IsShut else turned_in v d IsShut) fs
    by_zero true = refl
    by_zero false = refl

setting_turned : (v : Station) (d : ℕ) (t : Turn) → setting_of (turned_by v d t) ≡ setting_of v
setting_turned v d Stays = refl
setting_turned v d Opens = by_zero (d == 0)
  where
    by_zero : (b : Bool) → setting_of (if b then all_turned_in v IsOpened else turned_in v d IsOpened) ≡ setting_of v
    by_zero true = refl
    by_zero false = refl
setting_turned v d Shuts = by_zero (d == 0)
  where
    by_zero : (b : Bool) → setting_of (if b then all_turned_in v IsShut else turned_in v d IsShut) ≡ setting_of v
    by_zero true = refl
    by_zero false = refl

-- so many frames are sent behind a station that stays at its end
handled : (v w new : Station) (f : Frame) (fs : List Frame) (past : List Act) → setting_of w ≡ setting_of v → new ≡ queued_in w fs → called_frames (setting_of v) past (Got f) ≡ fs → AllStill v.role (Got f ∷ past) fs → StationFits w (Got f ∷ past)
    → StationFits new (after_act (setting_of v) past (Got f))
handled v w new f fs past e n c s h =
    let role : v.role ≡ w.role = ap (λ (x : StationSetting). x.role) (sym e) in
    let there : StationFits (queued_in w fs) (sent_after fs (Got f ∷ past)) = sent_all w fs (Got f ∷ past) (subst (λ (r : Role). AllStill r (Got f ∷ past) fs) role s) h in
    subst (λ (x : Station). StationFits x (after_act (setting_of v) past (Got f))) (sym n)
    (subst (λ (gs : List Frame). StationFits (queued_in w fs) (sent_after gs (Got f ∷ past))) (sym c) there)

table_handles : (old new : Station) (f : Frame) → is_on Uih 0 f ≡ false → f.dlci < 62 → length old.channels ≡ 62 → FollowsTable old new f.dlci f.kind → StationHandles old new (Got f)
table_handles old new f i l n w =
    let fs = by_table old.role f.dlci (channel_at old 0).state (channel_at old f.dlci).state f.kind in
    let new_is : new ≡ queued_in (turned_by old f.dlci w.turn) fs = w.new_is ∙ turned_queued old f.dlci w.turn fs in
    record {
      setting = ap setting_of new_is ∙ setting_turned old f.dlci w.turn;
      fits = λ past h.
          let tabled : called_frames (setting_of old) past (Got f) ≡ fs = got_calls old past f h l ∙ ap (λ (b : Bool). if b then by_message old.role (channel_at old 0).state f else fs) i in
          let settled = λ (k : Kind) (g : (z : Bool) (s : State) → is_opening (got_by old.role z s k) ≡ false) (e : f.kind ≡ k).
          ap is_opening (state_own old.role past f i ∙ ap (got_by old.role ((f.dlci == 0) || is_opened (state_of old.role 0 past)) (state_of old.role f.dlci past)) e)
          ∙ g ((f.dlci == 0) || is_opened (state_of old.role 0 past)) (state_of old.role f.dlci past) in
          handled old (turned_by old f.dlci w.turn) new f fs past (setting_turned old f.dlci w.turn) new_is tabled
          (table_still old.role f.dlci (channel_at old 0).state (channel_at old f.dlci).state f.kind (Got f ∷ past) (settled Sabm (sabm_settles old.role)) (settled Disc (disc_settles old.role)))
          (table_fits old f w.turn past (record { all = n; in_range = l; no_message = i; turns = w.turns; fits = h }));
    }

message_queued : (v : Station) (z : State) (o : Option Message) (fs : List Frame) → message_taken (queued_in v fs) z o ≡ queued_in (message_taken v z o) fs
message_queued v IsShut o fs = refl
message_queued v (IsOpening n) o fs = refl
message_queued v (IsClosing n) o fs = refl
message_queued v IsOpened None fs = refl
message_queued v (IsStopping n) None fs = refl
message_queued v IsOpened (Some m) fs = by_test (m.octet == cld)
  where
    by_test : (b : Bool) → (if b then all_turned_in (queued_in v fs) IsShut else record (queued_in v fs) { channels = stops_set v m; all_stopped = unwrap_or (flow_says m) v.all_stopped; probe = probe_answered v.probe m })
        ≡ queued_in (if b then all_turned_in v IsShut else record v { channels = stops_set v m; all_stopped = unwrap_or (flow_says m) v.all_stopped; probe = probe_answered v.probe m }) fs
    by_test true = refl
    by_test false = refl
message_queued v (IsStopping n) (Some m) fs = by_test ((m.octet == cld) || (command_of m.octet == cld))
  where
    by_test : (b : Bool) → (if b then all_turned_in (queued_in v fs) IsShut else queued_in v fs) ≡ queued_in (if b then all_turned_in v IsShut else v) fs
    by_test true = refl
    by_test false = refl

setting_told : (v : Station) (z : State) (o : Option Message) → setting_of (message_taken v z o) ≡ setting_of v
setting_told v IsShut o = refl
setting_told v (IsOpening n) o = refl
setting_told v (IsClosing n) o = refl
setting_told v IsOpened None = refl
setting_told v (IsStopping n) None = refl
setting_told v IsOpened (Some m) = by_test (m.octet == cld)
  where
    by_test : (b : Bool) → setting_of (if b then all_turned_in v IsShut else record v { channels = stops_set v m; all_stopped = unwrap_or (flow_says m) v.all_stopped; probe = probe_answered v.probe m }) ≡ setting_of v
    by_test true = refl
    by_test false = refl
setting_told v (IsStopping n) (Some m) = by_test ((m.octet == cld) || (command_of m.octet == cld))
  where
    by_test : (b : Bool) → setting_of (if b then all_turned_in v IsShut else v) ≡ setting_of v
    by_test true = refl
    by_test false = refl

message_handles : (old new : Station) (f : Frame) → is_on Uih 0 f ≡ true → f.dlci < 62 → length old.channels ≡ 62
    → new ≡ message_taken (queued_in old (message_calls old.role (channel_at old 0).state (message_of f.info))) (channel_at old 0).state (message_of f.info) → StationHandles old new (Got f)
message_handles old new f i l n e =
    let z = (channel_at old 0).state in
    let m = message_of f.info in
    let fs = message_calls old.role z m in
    let new_is : new ≡ queued_in (message_taken old z m) fs = e ∙ message_queued old z m fs in
    record {
      setting = ap setting_of new_is ∙ setting_told old z m;
      fits = λ past h.
          let told : called_frames (setting_of old) past (Got f) ≡ fs
          = got_calls old past f h l ∙ (ap (λ (b : Bool). if b then by_message old.role z f else by_table old.role f.dlci z (channel_at old f.dlci).state f.kind) i ∙ sym (called_by old.role z f i)) in
          handled old (message_taken old z m) new f fs past (setting_told old z m) new_is told (calls_still old.role z m (Got f ∷ past)) (message_fits old f past i n h);
    }

frame_handles : (old new : Station) (f : Frame) (b : Bool) → is_on Uih 0 f ≡ b → f.dlci < 62 → length old.channels ≡ 62 → FrameTaken old new f → StationHandles old new (Got f)
frame_handles old new f true i l n t = message_handles old new f i l n (t.by_message i)
frame_handles old new f false i l n t = table_handles old new f i l n (t.by_table i)

-- a frame that isn't refused, read as a message or else by the tables, is handled in each past that the station fits
pub got_handles : (r : Result Noted StationError) (old new : Station) (f : Frame) → f.dlci < 62 → length old.channels ≡ 62 → OnOk r (FrameTaken old new f) → OnOk r (StationHandles old new (Got f))
got_handles (Ok n) old new f l c t = frame_handles old new f (is_on Uih 0 f) refl l c t
got_handles (Err why) old new f l c t = tt

-- ## Data

kind_uih : (k : Kind) → is_kind k Uih ≡ true → k ≡ Uih
kind_uih Sabm e = cc
kind_uih Ua e = cc
kind_uih Dm e = cc
kind_uih Disc e = cc
kind_uih Uih e = refl

not_zero : (b z : Bool) → not z ≡ true → (b && z) ≡ false
not_zero true false e = refl
not_zero false false e = refl
not_zero b true e = cc

stays_so : (r : Role) (at_zero : Bool) (own : State) → own ≡ got_by r at_zero own Uih
stays_so Initiator at_zero IsShut = refl
stays_so Initiator at_zero (IsOpening n) = refl
stays_so Initiator at_zero IsOpened = refl
stays_so Initiator at_zero (IsClosing n) = refl
stays_so Initiator at_zero (IsStopping n) = refl
stays_so Responder at_zero IsShut = refl
stays_so Responder at_zero (IsOpening n) = refl
stays_so Responder at_zero IsOpened = refl
stays_so Responder at_zero (IsClosing n) = refl
stays_so Responder at_zero (IsStopping n) = refl

no_turn : (r : Role) (at_zero : Bool) (own : State) → TurnsBy r at_zero own Uih Stays
no_turn Initiator at_zero own = record { state = stays_so Initiator at_zero own; opens = refl }
no_turn Responder at_zero own = record { state = stays_so Responder at_zero own; opens = refl }

no_frames : (r : Role) (d : ℕ) (z s : State) → by_table r d z s Uih ≡ []
no_frames Initiator d z s = refl
no_frames Responder d z s = refl

data_follows : (v : Station) (d : ℕ) (k : Kind) → k ≡ Uih → FollowsTable v v d k
data_follows v d k e = record {
  turn = Stays;
  turns = subst (λ (x : Kind). TurnsBy v.role ((d == 0) || is_opened (channel_at v 0).state) (channel_at v d).state x Stays) (sym e) (no_turn v.role ((d == 0) || is_opened (channel_at v 0).state) (channel_at v d).state);
  new_is = ap (λ (fs : List Frame). record v { queue = fs }) (sym (append-nil v.queue))
      ∙ ap (queued_in v) (sym (ap (by_table v.role d (channel_at v 0).state (channel_at v d).state) e ∙ no_frames v.role d (channel_at v 0).state (channel_at v d).state));
}

-- a UIH on another connection than 0 leaves the station as it is
pub data_stays : (v : Station) (f : Frame) → f.dlci < 62 → length v.channels ≡ 62 → is_data_frame f ≡ true → StationHandles v v (Got f)
data_stays v f l n e =
    let parts = and_parts (is_kind f.kind Uih) (not (f.dlci == 0)) e in
    let other : is_on Uih 0 f ≡ false = not_zero (is_kind f.kind Uih) (f.dlci == 0) parts.1 in
    frame_handles v v f false other l n (record {
      by_message = λ on. absurd (let x : true ≡ false = sym on ∙ other in cc);
      by_table = λ _. data_follows v f.dlci f.kind (kind_uih f.kind parts.0);
    })

-- ## What is noted and refused

noted_by : Role → State → State → Option Waiting → Frame → Noted
noted_by r z s w f = if is_on Uih 0 f then noted_by_message z w (message_of f.info) else noted_by_table r f.dlci z s f.kind

noted_seen : (v : Station) (past : List Act) (f : Frame) → StationFits v past → f.dlci < 62 → noted_of v.role (seen_in v) f ≡ noted_of v.role (station_view (setting_of v) past) f
unfolding noted_by
noted_seen v past f h l =
    ap (λ (z : State). noted_by v.role z (channel_at v f.dlci).state v.probe f) (seen_state v past 0 h (omega arith))
    ∙ (ap (λ (s : State). noted_by v.role (state_of v.role 0 past) s v.probe f) (seen_state v past f.dlci h l)
    ∙ ap (λ (w : Option Waiting). noted_by v.role (state_of v.role 0 past) (state_of v.role f.dlci past) w f) (sym h.probe_is))

-- what is noted of a frame that isn't refused is what each past that the station fits says of it
pub noted_in_past : (r : Result Noted StationError) (v : Station) (f : Frame) → f.dlci < 62 → IfOk r (λ n. n ≡ noted_of v.role (seen_in v) f)
    → (past : List Act) → StationFits v past → IfOk r (λ n. n ≡ noted_of v.role (station_view (setting_of v) past) f)
noted_in_past (Ok n) v f l e past h = e ∙ noted_seen v past f h l
noted_in_past (Err why) v f l e past h = tt

-- a frame is refused by what a station keeps just as by each past that it fits
pub sees_the_frame : (v : Station) (past : List Act) (f : Frame) → SeesTheFrame v past f
sees_the_frame v past f h l =
    ap (without_room (setting_of v) (seen_in v)) (frames_seen v past f h l)
    ∙ ap (λ (q : ℕ). if have_room v.n1 q (by_frame v.role (station_view (setting_of v) past).state f) then None else Some NoRoom) (seen_queued v past h)
