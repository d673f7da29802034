-- A call of the user leads from each past that the station fits to one that it fits.
use Rattle.std.specs.Prelude.{◌≡◌, ◌≢◌, ℕ, ◌<◌, ◌==◌, ◌&&◌, not, Bool, true, false, List, [], ◌∷◌, ◌++◌, length, refl, if◌then◌else◌, Option, Some, None, is_none, slice_index_or, slice_set, Result, Ok, Err, OnOk}
use Rattle.std.specs.List.{list_any}
use Rattle.std.specs.Result.{result_err}
use Rattle.std.proofs.Common.{◌∙◌, ap, sym, subst, eqb-true, get_or-set_same, get_or-set_other, eq-eqb, arith}
use Rattle.std.proofs.lemmas.Bool.{eqb-false}
use Rattle.mux_frame.specs.Frames.{Frame}
use Rattle.mux_frame.specs.declared.frame.Kind.TheVariants.{Sabm, Disc}
use Rattle.mux_station.specs.declared.error.StationError.{StationError}
use Rattle.mux_station.specs.declared.error.StationError.TheVariants.{NotOpen, Busy, AlreadyOpen, ControlChannel}
use Rattle.mux_station.specs.Written.{is_kind, is_on, written, is_data_frame}
use Rattle.mux_station.specs.Messages.{cld, brings_command}
use Rattle.mux_station.specs.Acts.{Call, Open, Close, Act, Called, Sent}
use Rattle.mux_station.specs.Opening.{since}
use Rattle.mux_station.specs.States.{State, IsShut, IsOpening, IsOpened, IsClosing, IsStopping, is_opened, is_shut, at_sent, state_of}
use Rattle.mux_station.specs.Stopping.{last_said, got_says, flow_says}
use Rattle.mux_station.specs.Tables.{octets_of}
use Rattle.mux_station.specs.Sending.{StationSetting, StationView, Waiting, station_view, is_loss, queue, refused, refused_by_state, or_else, if_no_room, frames_asked, called_frames, frames_seeing, probe_of, after_act, sent_after}
use Rattle.mux_station.specs.Offering.{octets_offered, last_sender}
use Rattle.mux_station.specs.Stations.{Channel, Station, shut_channel, channel_at, setting_of, seen_in, asked_in}
use Rattle.mux_station.specs.Fitting.{ChannelFits, StationFits, StationHandles}
use Rattle.mux_station.proofs.states.StatesAfterActs.{shut_now}
use Rattle.mux_station.proofs.user_calls.CallFrames.{is_probe, state_called, state_sent, fits_sent, fits_called, AllStopped, all_sent, all_called, probe_sent, probe_called, probe_none, probe_needs}

-- ## What a call calls for

-- while the line is live, a call that isn't refused calls for the frames that it asks for
pub calls_asked : (s : StationSetting) (past : List Act) (x : Call) → list_any is_loss past ≡ false → refused s (station_view s past) x ≡ None → called_frames s past (Called x) ≡ frames_asked s.role x
calls_asked s past x live h =
    ap (λ (b : Bool). if b then [] else frames_seeing s (station_view s past) (Called x)) live
    ∙ ap (λ (e : Option StationError). if is_none e then frames_asked s.role x else []) h

-- the past after the call and its frame
pub one_answered : (s : StationSetting) (past : List Act) (x : Call) (f : Frame) → list_any is_loss past ≡ false → refused s (station_view s past) x ≡ None → frames_asked s.role x ≡ f ∷ [] → Sent f ∷ Called x ∷ past ≡ after_act s past (Called x)
one_answered s past x f live h a = sym (ap (λ (fs : List Frame). sent_after fs (Called x ∷ past)) (calls_asked s past x live h ∙ a))

queued_one : (past : List Act) (x : Call) (f : Frame) → is_data_frame f ≡ false → queue (Sent f ∷ Called x ∷ past) ≡ queue past ++ f ∷ []
queued_one past x f n = ap (λ (b : Bool). queue past ++ (if b then [] else f ∷ [])) n

last_one : (past : List Act) (x : Call) (f : Frame) → is_data_frame f ≡ false → last_sender (Sent f ∷ Called x ∷ past) ≡ last_sender past
last_one past x f n = ap (λ (b : Bool). if b then f.dlci else last_sender past) n

-- what has to be shown of a call that queues one control frame
pub record OneCall (v : Station) (channels : List Channel) (probe : Option Waiting) (x : Call) (f : Frame) (past : List Act) : Type 0 where
  pub accepted : refused (setting_of v) (station_view (setting_of v) past) x ≡ None
  pub asks : frames_asked v.role x ≡ f ∷ []
  pub control : is_data_frame f ≡ false
  pub each : (d : ℕ) → d < 62 → ChannelFits v.role d (Sent f ∷ Called x ∷ past) (slice_index_or channels d shut_channel)
  pub shut : is_opened (slice_index_or channels 0 shut_channel).state ≡ false → (d : ℕ) → d < 62 → (d == 0) ≡ false → (slice_index_or channels d shut_channel).state ≡ IsShut
  pub all : is_opened (slice_index_or channels 0 shut_channel).state ≡ true → last_said (got_says flow_says) (since v.role 0 (Sent f ∷ Called x ∷ past)) ≡ v.all_stopped
  pub probes : probe_of (setting_of v) (Sent f ∷ Called x ∷ past) ≡ probe

-- so the station with this frame queued fits the past after the call and its frame
pub one_call : (v : Station) (channels : List Channel) (probe : Option Waiting) (x : Call) (f : Frame) (past : List Act) → StationFits v past → OneCall v channels probe x f past
    → StationFits (record v { channels = channels; probe = probe; queue = v.queue ++ f ∷ [] }) (after_act (setting_of v) past (Called x))
one_call v channels probe x f past h o =
    let new : Station = record v { channels = channels; probe = probe; queue = v.queue ++ f ∷ [] } in
    let there : StationFits new (Sent f ∷ Called x ∷ past) = record {
      live = h.live;
      channels_are = o.each;
      others_shut = o.shut;
      stop_of_all_is = o.all;
      probe_is = o.probes;
      queue_is = queued_one past x f o.control ∙ ap (λ (fs : List Frame). fs ++ f ∷ []) h.queue_is;
      last_is = last_one past x f o.control ∙ h.last_is;
    } in
    subst (λ (p : List Act). StationFits new p) (one_answered (setting_of v) past x f h.live o.accepted o.asks) there

-- ## What is refused

-- what is seen in a station is what is seen of each past that it fits
pub seen_state : (v : Station) (past : List Act) (d : ℕ) → StationFits v past → d < 62 → (channel_at v d).state ≡ (station_view (setting_of v) past).state d
seen_state v past d h l = sym (h.channels_are d l).state_is

-- and as many octets wait in its control queue
pub seen_queued : (v : Station) (past : List Act) → StationFits v past → octets_of v.queue ≡ octets_of (queue past)
seen_queued v past h = sym (ap octets_of h.queue_is)

-- where a refusal is none, each of its parts is none
pub neither_refuses : (a b : Option StationError) → or_else a b ≡ None → (a ≡ None) × (b ≡ None)
neither_refuses None b h = (refl, h)
neither_refuses (Some e) b h = absurd (let g : Some e ≡ None = h in cc)

open_refused : StationSetting → ℕ → State → State → ℕ → Option StationError
open_refused s d z o q =
    let v : StationView = record { state = λ e. if e == 0 then z else o; queued = q; probe = None } in
    or_else (if not (d == 0) && not (is_opened z) then Some NotOpen else if is_opened o then Some AlreadyOpen else if not (is_shut o) then Some Busy else None) (if_no_room s v (Open d))

-- an opening is refused by what a station keeps just as by each past that it fits
pub open_seen : (v : Station) (past : List Act) (d : ℕ) → StationFits v past → d < 62 → refused (setting_of v) (seen_in v) (Open d) ≡ refused (setting_of v) (station_view (setting_of v) past) (Open d)
unfolding open_refused
open_seen v past d h l =
    let z = seen_state v past 0 h (omega arith) in
    let o = seen_state v past d h l in
    let q = seen_queued v past h in
    ap (λ (w : State). open_refused (setting_of v) d w (channel_at v d).state (octets_of v.queue)) z
    ∙ (ap (λ (w : State). open_refused (setting_of v) d (state_of v.role 0 past) w (octets_of v.queue)) o
    ∙ ap (λ (n : ℕ). open_refused (setting_of v) d (state_of v.role 0 past) (state_of v.role d past) n) q)

-- ## Opening

-- and where a test that refuses comes before another refusal, it fails, and that is none
pub if_then_none : (b : Bool) (e : StationError) (o : Option StationError) → (if b then Some e else o) ≡ None → (b ≡ false) × (o ≡ None)
if_then_none true e o h = absurd (let g : Some e ≡ None = h in cc)
if_then_none false e o h = (refl, h)

-- a test whose contrary fails passes
pub not_false : (b : Bool) → not b ≡ false → b ≡ true
not_false true h = refl
not_false false h = cc

is_shut_state : (s : State) → is_shut s ≡ true → s ≡ IsShut
is_shut_state IsShut h = refl
is_shut_state (IsOpening n) h = cc
is_shut_state IsOpened h = cc
is_shut_state (IsClosing n) h = cc
is_shut_state (IsStopping n) h = cc

-- an opening is taken only on a connection that is shut
open_shut : (s : StationSetting) (v : StationView) (d : ℕ) → refused s v (Open d) ≡ None → v.state d ≡ IsShut
open_shut s v d h =
    let states = (neither_refuses (refused_by_state v (Open d)) (if_no_room s v (Open d)) h).0 in
    let one = if_then_none (not (d == 0) && not (is_opened (v.state 0))) NotOpen _ states in
    let two = if_then_none (is_opened (v.state d)) AlreadyOpen _ one.1 in
    let three = if_then_none (not (is_shut (v.state d))) Busy None two.1 in
    is_shut_state (v.state d) (not_false (is_shut (v.state d)) three.0)

-- and, but for 0, only while 0 is Opened
not_true : (b : Bool) → not b ≡ true → b ≡ false
not_true false h = refl
not_true true h = cc

and_none : (b c : Bool) → (not b && not c) ≡ false → b ≡ false → c ≡ true
and_none false true h k = refl
and_none false false h k = cc
and_none true c h k = cc

open_zero : (s : StationSetting) (v : StationView) (d : ℕ) → refused s v (Open d) ≡ None → (d == 0) ≡ false → is_opened (v.state 0) ≡ true
open_zero s v d h z =
    let states = (neither_refuses (refused_by_state v (Open d)) (if_no_room s v (Open d)) h).0 in
    let one = if_then_none (not (d == 0) && not (is_opened (v.state 0))) NotOpen _ states in
    and_none (d == 0) (is_opened (v.state 0)) one.0 z

-- ## One connection is turned

-- the call x turns d by the frame f to a state that isn't Opened
record Turns (v : Station) (d : ℕ) (x : Call) (f : Frame) (t : State) : Type 0 where
  in_range : d < 62
  all : length v.channels ≡ 62
  on : f.dlci ≡ d
  turned : at_sent (channel_at v d).state f.kind ≡ t
  not_opened : is_opened t ≡ false
  no_close_down : brings_command cld f ≡ false
  no_disc : is_on Disc 0 f ≡ false
  pub control : is_data_frame f ≡ false
  no_probe : is_probe x ≡ false
  no_offer : (e : ℕ) → octets_offered e (Called x) ≡ []
  zero_not_opened : (d == 0) ≡ true → is_opened (channel_at v 0).state ≡ false
  zero_opened : (d == 0) ≡ false → is_opened (channel_at v 0).state ≡ true

abbrev fresh : State → Channel
fresh t = record { state = t; is_stopped = false; waiting = [] }

sabm_elsewhere : (f : Frame) (e : ℕ) → (f.dlci == e) ≡ false → is_on Sabm e f ≡ false
sabm_elsewhere f e h = ap (λ (b : Bool). is_kind f.kind Sabm && b) h ∙ off (is_kind f.kind Sabm)
  where
    off : (b : Bool) → (b && false) ≡ false
    off true = refl
    off false = refl

turned_state : (v : Station) (d : ℕ) (x : Call) (f : Frame) (t : State) (past : List Act) → Turns v d x f t → StationFits v past → state_of v.role d (Sent f ∷ Called x ∷ past) ≡ t
turned_state v d x f t past u h =
    let here : (f.dlci == d) ≡ true = eq-eqb f.dlci d u.on in
    let before : state_of v.role d (Called x ∷ past) ≡ (channel_at v d).state = state_called v.role d past x ∙ (h.channels_are d u.in_range).state_is in
    state_sent v.role d (Called x ∷ past) f u.no_close_down u.no_disc
    ∙ (ap (λ (b : Bool). if b then at_sent (state_of v.role d (Called x ∷ past)) f.kind else state_of v.role d (Called x ∷ past)) here
    ∙ (ap (λ (s : State). at_sent s f.kind) before ∙ u.turned))

kept_state : (v : Station) (d : ℕ) (x : Call) (f : Frame) (t : State) (past : List Act) (e : ℕ) → Turns v d x f t → (f.dlci == e) ≡ false → state_of v.role e (Sent f ∷ Called x ∷ past) ≡ state_of v.role e (Called x ∷ past)
kept_state v d x f t past e u h =
    state_sent v.role e (Called x ∷ past) f u.no_close_down u.no_disc
    ∙ ap (λ (b : Bool). if b then at_sent (state_of v.role e (Called x ∷ past)) f.kind else state_of v.role e (Called x ∷ past)) h

turned_each : (v : Station) (d : ℕ) (x : Call) (f : Frame) (t : State) (past : List Act) → Turns v d x f t → StationFits v past → (e : ℕ) → e < 62 → (b : Bool) → (f.dlci == e) ≡ b
    → ChannelFits v.role e (Sent f ∷ Called x ∷ past) (slice_index_or (slice_set v.channels d (fresh t)) e shut_channel)
turned_each v d x f t past u h e l true k =
    let same : d ≡ e = sym u.on ∙ eqb-true f.dlci e k in
    let place : slice_index_or (slice_set v.channels d (fresh t)) d shut_channel ≡ fresh t = get_or-set_same v.channels d (fresh t) shut_channel (subst (λ (n : ℕ). d < n) (sym u.all) u.in_range) in
    let there : ChannelFits v.role d (Sent f ∷ Called x ∷ past) (fresh t) = shut_now v.role d (Sent f ∷ Called x ∷ past) (fresh t) (turned_state v d x f t past u h) u.not_opened in
    subst (λ (m : ℕ). ChannelFits v.role m (Sent f ∷ Called x ∷ past) (slice_index_or (slice_set v.channels d (fresh t)) m shut_channel)) same
    (subst (λ (c : Channel). ChannelFits v.role d (Sent f ∷ Called x ∷ past) c) (sym place) there)
turned_each v d x f t past u h e l false k =
    let other : e ≢ d = λ (g : e ≡ d). eqb-false f.dlci e k (u.on ∙ sym g) in
    let place : slice_index_or (slice_set v.channels d (fresh t)) e shut_channel ≡ channel_at v e = get_or-set_other v.channels d e (fresh t) shut_channel other in
    let called : ChannelFits v.role e (Called x ∷ past) (channel_at v e) = fits_called v.role e past x (channel_at v e) (h.channels_are e l) (u.no_offer e) in
    subst (λ (c : Channel). ChannelFits v.role e (Sent f ∷ Called x ∷ past) c) (sym place)
    (fits_sent v.role e (Called x ∷ past) f (channel_at v e) called u.control (sabm_elsewhere f e k) (kept_state v d x f t past e u k))

-- the stop of all, as the past has it
pub stop_in_past : (v : Station) (past : List Act) → StationFits v past → AllStopped v.role past v.all_stopped
stop_in_past v past h o = h.stop_of_all_is (ap is_opened (sym (h.channels_are 0 (omega arith)).state_is) ∙ o)

turned_all : (v : Station) (d : ℕ) (x : Call) (f : Frame) (t : State) (past : List Act) → Turns v d x f t → StationFits v past → AllStopped v.role (Sent f ∷ Called x ∷ past) v.all_stopped
turned_all v d x f t past u h = by_zero (f.dlci == 0) refl
  where
    by_zero : (b : Bool) → (f.dlci == 0) ≡ b → AllStopped v.role (Sent f ∷ Called x ∷ past) v.all_stopped
    by_zero false k o = all_sent v.role (Called x ∷ past) f v.all_stopped (all_called v.role past x v.all_stopped (stop_in_past v past h)) (kept_state v d x f t past 0 u k) o
    by_zero true k o =
        let zero : d ≡ 0 = sym u.on ∙ eqb-true f.dlci 0 k in
        let now : state_of v.role 0 (Sent f ∷ Called x ∷ past) ≡ t = subst (λ (m : ℕ). state_of v.role m (Sent f ∷ Called x ∷ past) ≡ t) zero (turned_state v d x f t past u h) in
        absurd (let g : false ≡ true = sym u.not_opened ∙ (ap is_opened (sym now) ∙ o) in cc)

turned_probe : (v : Station) (d : ℕ) (x : Call) (f : Frame) (t : State) (past : List Act) → Turns v d x f t → StationFits v past → probe_of (setting_of v) (Sent f ∷ Called x ∷ past) ≡ v.probe
turned_probe v d x f t past u h = by_zero (f.dlci == 0) refl
  where
    called : probe_of (setting_of v) (Called x ∷ past) ≡ v.probe
    called = probe_called (setting_of v) past x u.no_probe ∙ h.probe_is

    by_zero : (b : Bool) → (f.dlci == 0) ≡ b → probe_of (setting_of v) (Sent f ∷ Called x ∷ past) ≡ v.probe
    by_zero false k = probe_sent (setting_of v) (Called x ∷ past) f (kept_state v d x f t past 0 u k) ∙ called
    by_zero true k =
        let zero : d ≡ 0 = sym u.on ∙ eqb-true f.dlci 0 k in
        let shut : is_opened (state_of v.role 0 past) ≡ false = ap is_opened (h.channels_are 0 (omega arith)).state_is ∙ u.zero_not_opened (eq-eqb d 0 zero) in
        let none : probe_of (setting_of v) past ≡ None = probe_needs (setting_of v) past shut in
        let before : probe_of (setting_of v) (Called x ∷ past) ≡ None = probe_called (setting_of v) past x u.no_probe ∙ none in
        probe_none (setting_of v) (Called x ∷ past) f before ∙ (sym before ∙ called)

turned_shut : (v : Station) (d : ℕ) (x : Call) (f : Frame) (t : State) (past : List Act) → Turns v d x f t → StationFits v past → is_opened (slice_index_or (slice_set v.channels d (fresh t)) 0 shut_channel).state ≡ false
    → (e : ℕ) → e < 62 → (e == 0) ≡ false → (slice_index_or (slice_set v.channels d (fresh t)) e shut_channel).state ≡ IsShut
turned_shut v d x f t past u h o e l z = by_zero (d == 0) refl
  where
    by_zero : (b : Bool) → (d == 0) ≡ b → (slice_index_or (slice_set v.channels d (fresh t)) e shut_channel).state ≡ IsShut
    by_zero true k =
        let zero : d ≡ 0 = eqb-true d 0 k in
        let place : slice_index_or (slice_set v.channels d (fresh t)) e shut_channel ≡ channel_at v e = get_or-set_other v.channels d e (fresh t) shut_channel (λ (g : e ≡ d). eqb-false e 0 z (g ∙ zero)) in
        ap (λ (c : Channel). c.state) place ∙ h.others_shut (u.zero_not_opened k) e l z
    by_zero false k =
        let place : slice_index_or (slice_set v.channels d (fresh t)) 0 shut_channel ≡ channel_at v 0 = get_or-set_other v.channels d 0 (fresh t) shut_channel (λ (g : 0 ≡ d). eqb-false d 0 k (sym g)) in
        absurd (let g : false ≡ true = sym o ∙ (ap (λ (c : Channel). is_opened c.state) place ∙ u.zero_opened k) in cc)

turned_call : (v : Station) (d : ℕ) (x : Call) (f : Frame) (t : State) (past : List Act) → Turns v d x f t → frames_asked v.role x ≡ f ∷ [] → refused (setting_of v) (station_view (setting_of v) past) x ≡ None → StationFits v past
    → StationFits (asked_in v d t f) (after_act (setting_of v) past (Called x))
turned_call v d x f t past u a r h =
    one_call v (slice_set v.channels d (fresh t)) v.probe x f past h (record {
      accepted = r;
      asks = a;
      control = u.control;
      shut = λ o e l z. turned_shut v d x f t past u h o e l z;
      each = λ e l. turned_each v d x f t past u h e l (f.dlci == e) refl;
      all = λ o. turned_all v d x f t past u h (ap is_opened (turned_each v d x f t past u h 0 (omega arith) (f.dlci == 0) refl).state_is ∙ o);
      probes = turned_probe v d x f t past u h;
    })

-- ## Opening and closing

-- an opening that isn't refused is handled in each past that the station fits: d is Opening, its SABM queued
pub open_handles : (v new : Station) (d : ℕ) → d < 62 → length v.channels ≡ 62 → refused (setting_of v) (seen_in v) (Open d) ≡ None → new ≡ asked_in v d (IsOpening 0) (written v.role Sabm d []) → StationHandles v new (Called (Open d))
open_handles v new d l n h e =
    let shut : (channel_at v d).state ≡ IsShut = open_shut (setting_of v) (seen_in v) d h in
    let turns : Turns v d (Open d) (written v.role Sabm d []) (IsOpening 0) = record {
      in_range = l;
      all = n;
      on = refl;
      turned = ap (λ (s : State). at_sent s Sabm) shut;
      not_opened = refl;
      no_close_down = refl;
      no_disc = refl;
      control = refl;
      no_probe = refl;
      no_offer = λ m. refl;
      zero_not_opened = λ z. let zero : d ≡ 0 = eqb-true d 0 z in subst (λ (m : ℕ). is_opened (channel_at v m).state ≡ false) zero (ap is_opened shut);
      zero_opened = λ z. open_zero (setting_of v) (seen_in v) d h z;
    } in
    subst (λ (w : Station). StationHandles v w (Called (Open d))) (sym e) (record {
      setting = refl;
      fits = λ past f. turned_call v d (Open d) (written v.role Sabm d []) (IsOpening 0) past turns refl (sym (open_seen v past d f l) ∙ h) f;
    })

close_refused : StationSetting → ℕ → State → ℕ → Option StationError
close_refused s d o q =
    let v : StationView = record { state = λ e. o; queued = q; probe = None } in
    or_else (if d == 0 then Some ControlChannel else if is_shut o then Some NotOpen else if not (is_opened o) then Some Busy else None) (if_no_room s v (Close d))

-- a close is refused by what a station keeps just as by each past that it fits
pub close_seen : (v : Station) (past : List Act) (d : ℕ) → StationFits v past → d < 62 → refused (setting_of v) (seen_in v) (Close d) ≡ refused (setting_of v) (station_view (setting_of v) past) (Close d)
unfolding close_refused
close_seen v past d h l =
    ap (λ (w : State). close_refused (setting_of v) d w (octets_of v.queue)) (seen_state v past d h l)
    ∙ ap (λ (n : ℕ). close_refused (setting_of v) d (state_of v.role d past) n) (seen_queued v past h)

-- a state that is Opened is no other
pub is_opened_state : (s : State) → is_opened s ≡ true → s ≡ IsOpened
is_opened_state IsShut h = cc
is_opened_state (IsOpening n) h = cc
is_opened_state IsOpened h = refl
is_opened_state (IsClosing n) h = cc
is_opened_state (IsStopping n) h = cc

-- a close is taken only on a connection that is Opened, and not on 0
close_opened : (s : StationSetting) (v : StationView) (d : ℕ) → refused s v (Close d) ≡ None → (v.state d ≡ IsOpened) × ((d == 0) ≡ false)
close_opened s v d h =
    let states = (neither_refuses (refused_by_state v (Close d)) (if_no_room s v (Close d)) h).0 in
    let one = if_then_none (d == 0) ControlChannel _ states in
    let two = if_then_none (is_shut (v.state d)) NotOpen _ one.1 in
    let three = if_then_none (not (is_opened (v.state d))) Busy None two.1 in
    (is_opened_state (v.state d) (not_false (is_opened (v.state d)) three.0), one.0)

-- what is Opened is so while 0 is
opened_zero : (v : Station) (d : ℕ) (past : List Act) (b : Bool) → is_opened (channel_at v 0).state ≡ b → StationFits v past → d < 62 → (d == 0) ≡ false → (channel_at v d).state ≡ IsOpened → b ≡ true
opened_zero v d past true k h l z o = refl
opened_zero v d past false k h l z o = let shut : (channel_at v d).state ≡ IsShut = h.others_shut k d l z in cc

close_turns : (v : Station) (d : ℕ) (past : List Act) → d < 62 → length v.channels ≡ 62 → (channel_at v d).state ≡ IsOpened → (d == 0) ≡ false → StationFits v past → Turns v d (Close d) (written v.role Disc d []) (IsClosing 0)
close_turns v d past l n o z h = record {
  in_range = l;
  all = n;
  on = refl;
  turned = ap (λ (s : State). at_sent s Disc) o;
  not_opened = refl;
  no_close_down = refl;
  no_disc = z;
  control = refl;
  no_probe = refl;
  no_offer = λ m. refl;
  zero_not_opened = λ k. absurd (let g : false ≡ true = sym z ∙ k in cc);
  zero_opened = λ k. opened_zero v d past (is_opened (channel_at v 0).state) refl h l z o;
}

-- a close that isn't refused is handled in each past that the station fits: d is Closing, its DISC queued
pub close_handles : (v new : Station) (d : ℕ) → d < 62 → length v.channels ≡ 62 → refused (setting_of v) (seen_in v) (Close d) ≡ None → new ≡ asked_in v d (IsClosing 0) (written v.role Disc d []) → StationHandles v new (Called (Close d))
close_handles v new d l n h e =
    let o = close_opened (setting_of v) (seen_in v) d h in
    subst (λ (w : Station). StationHandles v w (Called (Close d))) (sym e) (record {
      setting = refl;
      fits = λ past f. turned_call v d (Close d) (written v.role Disc d []) (IsClosing 0) past (close_turns v d past l n o.0 o.1 f) refl (sym (close_seen v past d f l) ∙ h) f;
    })

-- ## What a call answers

-- what an accepted call did
pub on_accepted : {U P Q : Type 0} → (r : Result U StationError) (refusal : Option StationError) → result_err r ≡ refusal → OnOk r P → (refusal ≡ None → P → Q) → OnOk r Q
on_accepted (Ok u) refusal e p f = f (sym e) p
on_accepted (Err why) refusal e p f = tt
