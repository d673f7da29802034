-- Probe, stop, flow and offer lead from each past that the station fits to one that it fits.
use Rattle.std.specs.Prelude.{◌≡◌, ℕ, ◌+◌, ◌*◌, ◌/◌, ◌%◌, ◌<◌, ◌==◌, ◌&&◌, not, nat_le, Bool, true, false, List, [], ◌∷◌, ◌++◌, length, take, refl, if◌then◌else◌, Option, Some, None, is_some, is_none, slice_index_or, slice_set, replicate}
use Rattle.std.specs.List.{list_any}
use Rattle.std.proofs.Common.{◌∙◌, ap, sym, subst, eqb-true, get_or-set_same, get_or-set_other, eq-eqb, arith}
use Rattle.std.proofs.lemmas.Bool.{eqb-false}
use Rattle.std.proofs.lemmas.List.{get_or-replicate}
use Rattle.mux_frame.specs.Frames.{Frame}
use Rattle.mux_station.specs.declared.role.Role.{Role}
use Rattle.mux_station.specs.declared.role.Role.TheVariants.{Initiator, Responder}
use Rattle.mux_station.specs.declared.error.StationError.{StationError}
use Rattle.mux_station.specs.declared.error.StationError.TheVariants.{TooLong, NotOpen, Busy, ControlChannel}
use Rattle.mux_station.specs.Messages.{Message, cld, test, msc, brings_command, octet_is, is_msc, is_good_msc}
use Rattle.mux_station.specs.Acts.{Call, Open, Close, Probe, Stop, Flow, Offer, Act, Called, Sent}
use Rattle.mux_station.specs.Opening.{opens_now}
use Rattle.mux_station.specs.States.{State, IsShut, IsStopping, is_opened, state_of}
use Rattle.mux_station.specs.Tables.{message_frame, msc_frame, octets_of, ready, held_up}
use Rattle.mux_station.specs.Sending.{StationSetting, StationView, Waiting, station_view, is_loss, refused, refused_by_state, or_else, if_no_room, frames_asked, called_frames, frames_seeing, probe_after, zero_stays, probe_of, after_act, sent_after}
use Rattle.mux_station.specs.Offering.{octets_offered}
use Rattle.mux_station.specs.Stations.{Channel, Station, shut_channel, channel_at, setting_of, seen_in, probed_in, stopping_in, offer_refused, offered_in}
use Rattle.mux_station.specs.Fitting.{ChannelFits, StationFits, StationHandles, SeesThePast}
use Rattle.mux_station.proofs.states.StatesAfterActs.{state_next, shut_now, goes_on}
use Rattle.mux_station.proofs.user_calls.CallFrames.{state_called, state_sent_uih, fits_sent, fits_called, all_sent, all_called, probe_sent, probe_called, probe_taken_on}
use Rattle.mux_station.proofs.user_calls.OpenAndClose.{one_call, seen_state, seen_queued, neither_refuses, if_then_none, not_false, stop_in_past, open_seen, close_seen}

abbrev no_frames : List Frame
no_frames = []

-- ## A message that changes no state

octet_apart : (m : Message) (b c : Bool) → (m.octet == cld) ≡ false → octet_is (λ n. n) cld (if b then (if c then None else Some m) else None) ≡ false
octet_apart m true true h = refl
octet_apart m true false h = h
octet_apart m false c h = refl

-- a message of another type is no close-down
pub no_close_down : (r : Role) (octet : ℕ) (value : List ℕ) → (octet == cld) ≡ false → brings_command cld (message_frame r octet value) ≡ false
no_close_down r octet value h =
    let l = 2 * length value + 1 in
    let m : Message = record { octet = octet; value = take (l / 2) value } in
    octet_apart m ((octet % 2 == 1) && ((l % 2 == 1) && nat_le (l / 2) (length value))) (is_msc octet && not (is_good_msc m.value)) h

-- what has to be shown of a call that queues one message and leaves every connection as it is
record Messages (v : Station) (probe : Option Waiting) (x : Call) (octet : ℕ) (value : List ℕ) (past : List Act) : Type 0 where
  accepted : refused (setting_of v) (station_view (setting_of v) past) x ≡ None
  asks : frames_asked v.role x ≡ message_frame v.role octet value ∷ []
  no_cld : (octet == cld) ≡ false
  no_offer : (e : ℕ) → octets_offered e (Called x) ≡ []
  probes : probe_of (setting_of v) (Called x ∷ past) ≡ probe

same_state : (r role : Role) (d : ℕ) (past : List Act) (octet : ℕ) (value : List ℕ) → (octet == cld) ≡ false → state_of r d (Sent (message_frame role octet value) ∷ past) ≡ state_of r d past
same_state r role d past octet value n = state_sent_uih r d past (message_frame role octet value) refl (no_close_down role octet value n) refl

message_call : (v : Station) (probe : Option Waiting) (x : Call) (octet : ℕ) (value : List ℕ) (past : List Act) → StationFits v past → Messages v probe x octet value past
    → StationFits (record v { probe = probe; queue = v.queue ++ message_frame v.role octet value ∷ [] }) (after_act (setting_of v) past (Called x))
message_call v probe x octet value past h m =
    let f = message_frame v.role octet value in
    one_call v v.channels probe x f past h (record {
      accepted = m.accepted;
      asks = m.asks;
      control = refl;
      shut = h.others_shut;
      each = λ e l. fits_sent v.role e (Called x ∷ past) f (channel_at v e) (fits_called v.role e past x (channel_at v e) (h.channels_are e l) (m.no_offer e)) refl refl (same_state v.role v.role e (Called x ∷ past) octet value m.no_cld);
      all = λ o.
          let same : state_of v.role 0 (Sent f ∷ Called x ∷ past) ≡ (channel_at v 0).state
          = same_state v.role v.role 0 (Called x ∷ past) octet value m.no_cld ∙ (state_called v.role 0 past x ∙ (h.channels_are 0 (omega arith)).state_is) in
          all_sent v.role (Called x ∷ past) f v.all_stopped (all_called v.role past x v.all_stopped (stop_in_past v past h)) (same_state v.role v.role 0 (Called x ∷ past) octet value m.no_cld) (ap is_opened same ∙ o);
      probes = probe_sent (setting_of v) (Called x ∷ past) f (same_state v.role v.role 0 (Called x ∷ past) octet value m.no_cld) ∙ m.probes;
    })

-- ## Probe

probe_refused : StationSetting → List ℕ → State → Option Waiting → ℕ → Option StationError
probe_refused s octets z p q =
    let v : StationView = record { state = λ e. z; queued = q; probe = p } in
    or_else (if not (nat_le (length octets) 16) then Some TooLong else if not (is_opened z) then Some NotOpen else if is_some p then Some Busy else None) (if_no_room s v (Probe octets))

probe_seen : (v : Station) (past : List Act) (octets : List ℕ) → StationFits v past → refused (setting_of v) (seen_in v) (Probe octets) ≡ refused (setting_of v) (station_view (setting_of v) past) (Probe octets)
unfolding probe_refused
probe_seen v past octets h =
    ap (λ (w : State). probe_refused (setting_of v) octets w v.probe (octets_of v.queue)) (seen_state v past 0 h (omega arith))
    ∙ (ap (λ (p : Option Waiting). probe_refused (setting_of v) octets (state_of v.role 0 past) p (octets_of v.queue)) (sym h.probe_is)
    ∙ ap (λ (n : ℕ). probe_refused (setting_of v) octets (state_of v.role 0 past) (probe_of (setting_of v) past) n) (seen_queued v past h))

-- a probe that isn't refused is handled in each past that the station fits: it waits, its Test command queued
pub probe_handles : (v new : Station) (octets : List ℕ) → refused (setting_of v) (seen_in v) (Probe octets) ≡ None → new ≡ probed_in v octets → StationHandles v new (Called (Probe octets))
probe_handles v new octets n e =
    subst (λ (w : Station). StationHandles v w (Called (Probe octets))) (sym e) (record {
      setting = refl;
      fits = λ past f.
          let accepted : refused (setting_of v) (station_view (setting_of v) past) (Probe octets) ≡ None = sym (probe_seen v past octets f) ∙ n in
          message_call v (Some (record { data_octets = octets; ticks = 0 })) (Probe octets) test octets past f (record {
            accepted = accepted;
            asks = refl;
            no_cld = refl;
            no_offer = λ m. refl;
            probes = probe_taken_on (setting_of v) past octets accepted;
          });
    })

-- ## Flow

flow_refused : StationSetting → ℕ → Bool → State → State → ℕ → Option StationError
flow_refused s d go z o q =
    let v : StationView = record { state = λ e. z; queued = q; probe = None } in
    or_else (if not (is_opened o && is_opened z) then Some NotOpen else None) (if_no_room s v (Flow d go))

flow_seen : (v : Station) (past : List Act) (d : ℕ) (go : Bool) → StationFits v past → d < 62 → refused (setting_of v) (seen_in v) (Flow d go) ≡ refused (setting_of v) (station_view (setting_of v) past) (Flow d go)
unfolding flow_refused
flow_seen v past d go h l =
    ap (λ (w : State). flow_refused (setting_of v) d go w (channel_at v d).state (octets_of v.queue)) (seen_state v past 0 h (omega arith))
    ∙ (ap (λ (w : State). flow_refused (setting_of v) d go (state_of v.role 0 past) w (octets_of v.queue)) (seen_state v past d h l)
    ∙ ap (λ (n : ℕ). flow_refused (setting_of v) d go (state_of v.role 0 past) (state_of v.role d past) n) (seen_queued v past h))

-- the type and value of a flow's message
abbrev flow_octet : Bool → Bool → ℕ
flow_octet zero go = if zero then (if go then 0xa3 else 0x63) else msc

abbrev flow_value : Bool → ℕ → Bool → List ℕ
flow_value zero d go = if zero then [] else (4 * d + 3) ∷ (if go then ready else held_up) ∷ []

flow_asks : (r : Role) (d : ℕ) (go zero : Bool) → (if zero then message_frame r (if go then 0xa3 else 0x63) [] ∷ [] else msc_frame r d (if go then ready else held_up) ∷ []) ≡ message_frame r (flow_octet zero go) (flow_value zero d go) ∷ []
flow_asks r d go true = refl
flow_asks r d go false = refl

flow_no_cld : (zero go : Bool) → (flow_octet zero go == cld) ≡ false
flow_no_cld true true = refl
flow_no_cld true false = refl
flow_no_cld false go = refl

-- so is a flow that isn't refused: its FCon, FCoff or MSC is queued
pub flow_handles : (v new : Station) (d : ℕ) (go : Bool) → d < 62 → refused (setting_of v) (seen_in v) (Flow d go) ≡ None → new ≡ record v { queue = v.queue ++ frames_asked v.role (Flow d go) } → StationHandles v new (Called (Flow d go))
flow_handles v new d go l n e =
    let octet = flow_octet (d == 0) go in
    let value = flow_value (d == 0) d go in
    let asked : frames_asked v.role (Flow d go) ≡ message_frame v.role octet value ∷ [] = flow_asks v.role d go (d == 0) in
    let whole : new ≡ record v { queue = v.queue ++ message_frame v.role octet value ∷ [] } = e ∙ ap (λ (fs : List Frame). let w : Station = record v { queue = v.queue ++ fs } in w) asked in
    subst (λ (w : Station). StationHandles v w (Called (Flow d go))) (sym whole) (record {
      setting = refl;
      fits = λ past f. message_call v v.probe (Flow d go) octet value past f (record {
        accepted = sym (flow_seen v past d go f l) ∙ n;
        asks = asked;
        no_cld = flow_no_cld (d == 0) go;
        no_offer = λ m. refl;
        probes = probe_called (setting_of v) past (Flow d go) refl ∙ f.probe_is;
      });
    })

-- ## Stop

stop_refused : StationSetting → State → ℕ → Option StationError
stop_refused s z q =
    let v : StationView = record { state = λ e. z; queued = q; probe = None } in
    or_else (if not (is_opened z) then Some NotOpen else None) (if_no_room s v Stop)

stop_seen : (v : Station) (past : List Act) → StationFits v past → refused (setting_of v) (seen_in v) Stop ≡ refused (setting_of v) (station_view (setting_of v) past) Stop
unfolding stop_refused
stop_seen v past h =
    ap (λ (w : State). stop_refused (setting_of v) w (octets_of v.queue)) (seen_state v past 0 h (omega arith))
    ∙ ap (λ (n : ℕ). stop_refused (setting_of v) (state_of v.role 0 past) n) (seen_queued v past h)

abbrev stop_frame : Role → Frame
stop_frame r = message_frame r cld []

stopped_zero : (r role : Role) (past : List Act) → state_of r 0 (Sent (stop_frame role) ∷ past) ≡ IsStopping 0
stopped_zero r role past = state_next r 0 past (Sent (stop_frame role))

stopped_other : (r role : Role) (d : ℕ) (past : List Act) → (d == 0) ≡ false → state_of r d (Sent (stop_frame role) ∷ past) ≡ IsShut
stopped_other r role d past h =
    let z = state_of r 0 past in
    let s = state_of r d past in
    state_next r d past (Sent (stop_frame role)) ∙ ap (λ (b : Bool). if b then IsStopping 0 else IsShut) h

abbrev stopping : Channel
stopping = record { state = IsStopping 0; is_stopped = false; waiting = [] }

stopped_each : (r role : Role) (past : List Act) (d : ℕ) → d < 62 → (b : Bool) → (d == 0) ≡ b → ChannelFits r d (Sent (stop_frame role) ∷ past) (slice_index_or (slice_set (replicate 62 shut_channel) 0 stopping) d shut_channel)
stopped_each r role past d l true k =
    let zero : 0 ≡ d = sym (eqb-true d 0 k) in
    subst (λ (m : ℕ). ChannelFits r m (Sent (stop_frame role) ∷ past) (slice_index_or (slice_set (replicate 62 shut_channel) 0 stopping) m shut_channel)) zero
    (shut_now r 0 (Sent (stop_frame role) ∷ past) stopping (stopped_zero r role past) refl)
stopped_each r role past d l false k =
    let place : slice_index_or (slice_set (replicate 62 shut_channel) 0 stopping) d shut_channel ≡ shut_channel
    = get_or-set_other (replicate 62 shut_channel) 0 d stopping shut_channel (λ (g : d ≡ 0). eqb-false d 0 k g) ∙ get_or-replicate 62 d shut_channel shut_channel l in
    subst (λ (c : Channel). ChannelFits r d (Sent (stop_frame role) ∷ past) c) (sym place) (shut_now r d (Sent (stop_frame role) ∷ past) shut_channel (stopped_other r role d past k) refl)

stop_probe : (s : StationSetting) (past : List Act) (o : Option Waiting) (b : Bool) → b ≡ false → probe_after s b o (Sent (stop_frame s.role)) ≡ None
stop_probe s past None b h = refl
stop_probe s past (Some w) b h = ap (λ (z : Bool). if z then Some w else None) h

-- a stop that isn't refused: 0 is Stopping, all others Shut, and a CLD command is queued
pub stop_handles : (v new : Station) → refused (setting_of v) (seen_in v) Stop ≡ None → new ≡ stopping_in v → StationHandles v new (Called Stop)
stop_handles v new n e =
    subst (λ (w : Station). StationHandles v w (Called Stop)) (sym e) (record {
      setting = refl;
      fits = λ past f. one_call v (slice_set (replicate 62 shut_channel) 0 stopping) None Stop (stop_frame v.role) past f (record {
        accepted = sym (stop_seen v past f) ∙ n;
        asks = refl;
        control = refl;
        shut = λ o d l z. ap (λ (c : Channel). c.state) (get_or-set_other (replicate 62 shut_channel) 0 d stopping shut_channel (λ (g : d ≡ 0). eqb-false d 0 z g) ∙ get_or-replicate 62 d shut_channel shut_channel l);
        each = λ d l. stopped_each v.role v.role (Called Stop ∷ past) d l (d == 0) refl;
        all = λ o. absurd (let g : false ≡ true = o in cc);
        probes = stop_probe (setting_of v) past (probe_of (setting_of v) (Called Stop ∷ past)) (zero_stays (setting_of v) (Called Stop ∷ past) (Sent (stop_frame v.role))) (ap (λ (s : State). is_opened s && not (opens_now v.role 0 (Called Stop ∷ past) (Sent (stop_frame v.role)))) (stopped_zero v.role v.role (Called Stop ∷ past)));
      });
    })

-- ## Offer

none_asked : (b : Bool) → (if b then no_frames else no_frames) ≡ no_frames
none_asked true = refl
none_asked false = refl

offer_calls : (s : StationSetting) (past : List Act) (d : ℕ) (octets : List ℕ) → list_any is_loss past ≡ false → Called (Offer d octets) ∷ past ≡ after_act s past (Called (Offer d octets))
offer_calls s past d octets live =
    let none : called_frames s past (Called (Offer d octets)) ≡ [] = ap (λ (b : Bool). if b then no_frames else frames_seeing s (station_view s past) (Called (Offer d octets))) live ∙ none_asked (is_none (refused s (station_view s past) (Offer d octets))) in
    sym (ap (λ (fs : List Frame). sent_after fs (Called (Offer d octets) ∷ past)) none)

opens_offer : (r : Role) (e : ℕ) (past : List Act) (x : Call) → opens_now r e past (Called x) ≡ false
opens_offer Initiator e past x = refl
opens_offer Responder e past x = refl

offer_each : (v : Station) (d : ℕ) (octets : List ℕ) (past : List Act) → StationFits v past → d < 62 → length v.channels ≡ 62 → is_opened (channel_at v d).state ≡ true → (e : ℕ) → e < 62 → (b : Bool) → (d == e) ≡ b
    → ChannelFits v.role e (Called (Offer d octets) ∷ past) (channel_at (offered_in v d octets) e)
offer_each v d octets past h l n o e k true same =
    let c : Channel = record (channel_at v d) { waiting = (channel_at v d).waiting ++ octets } in
    let place : slice_index_or (slice_set v.channels d c) d shut_channel ≡ c = get_or-set_same v.channels d c shut_channel (subst (λ (m : ℕ). d < m) (sym n) l) in
    let state : state_of v.role d (Called (Offer d octets) ∷ past) ≡ c.state = state_called v.role d past (Offer d octets) ∙ (h.channels_are d l).state_is in
    let more : octets_offered d (Called (Offer d octets)) ≡ octets = ap (λ (b : Bool). if b then octets else []) (eq-eqb d d refl) in
    let there : ChannelFits v.role d (Called (Offer d octets) ∷ past) c
    = goes_on v.role d past (Called (Offer d octets)) (channel_at v d) c (h.channels_are d l) o state o (opens_offer v.role d past (Offer d octets)) refl refl (ap (λ (w : List ℕ). (channel_at v d).waiting ++ w) more) in
    subst (λ (m : ℕ). ChannelFits v.role m (Called (Offer d octets) ∷ past) (channel_at (offered_in v d octets) m)) (eqb-true d e same)
    (subst (λ (w : Channel). ChannelFits v.role d (Called (Offer d octets) ∷ past) w) (sym place) there)
offer_each v d octets past h l n o e k false same =
    let c : Channel = record (channel_at v d) { waiting = (channel_at v d).waiting ++ octets } in
    let place : slice_index_or (slice_set v.channels d c) e shut_channel ≡ channel_at v e = get_or-set_other v.channels d e c shut_channel (λ (g : e ≡ d). eqb-false d e same (sym g)) in
    let none : octets_offered e (Called (Offer d octets)) ≡ [] = ap (λ (b : Bool). if b then octets else []) same in
    subst (λ (w : Channel). ChannelFits v.role e (Called (Offer d octets) ∷ past) w) (sym place) (fits_called v.role e past (Offer d octets) (channel_at v e) (h.channels_are e k) none)

-- an offer is taken only on a connection that is Opened
offer_opened : (v : Station) (d : ℕ) (octets : List ℕ) → offer_refused v d octets ≡ None → is_opened (channel_at v d).state ≡ true
offer_opened v d octets h =
    let s = setting_of v in
    let w = seen_in v in
    let first = (neither_refuses (refused s w (Offer d octets)) _ h).0 in
    let states = (neither_refuses (refused_by_state w (Offer d octets)) (if_no_room s w (Offer d octets)) first).0 in
    let one = if_then_none (d == 0) ControlChannel _ states in
    let two = if_then_none (not (is_opened (w.state d))) NotOpen None one.1 in
    not_false (is_opened (w.state d)) two.0

offer_fits : (v : Station) (d : ℕ) (octets : List ℕ) (past : List Act) → d < 62 → length v.channels ≡ 62 → is_opened (channel_at v d).state ≡ true → StationFits v past → StationFits (offered_in v d octets) (Called (Offer d octets) ∷ past)
offer_fits v d octets past l n o h =
    let each = offer_each v d octets past h l n o in
    let same : (e : ℕ) → e < 62 → (channel_at (offered_in v d octets) e).state ≡ (channel_at v e).state
    = λ e k. sym (each e k (d == e) refl).state_is ∙ (state_called v.role e past (Offer d octets) ∙ (h.channels_are e k).state_is) in
    record {
      live = h.live;
      channels_are = λ e k. each e k (d == e) refl;
      others_shut = λ t e k z. same e k ∙ h.others_shut (ap is_opened (sym (same 0 (omega arith))) ∙ t) e k z;
      stop_of_all_is = λ t. all_called v.role past (Offer d octets) v.all_stopped (stop_in_past v past h) (ap is_opened (each 0 (omega arith) (d == 0) refl).state_is ∙ t);
      probe_is = probe_called (setting_of v) past (Offer d octets) refl ∙ h.probe_is;
      queue_is = h.queue_is;
      last_is = h.last_is;
    }

-- and an offer that isn't refused: its octets wait in d's send ring
pub offer_handles : (v new : Station) (d : ℕ) (octets : List ℕ) → d < 62 → length v.channels ≡ 62 → offer_refused v d octets ≡ None → new ≡ offered_in v d octets → StationHandles v new (Called (Offer d octets))
offer_handles v new d octets l n h e =
    subst (λ (w : Station). StationHandles v w (Called (Offer d octets))) (sym e) (record {
      setting = refl;
      fits = λ past f. subst (λ (p : List Act). StationFits (offered_in v d octets) p) (offer_calls (setting_of v) past d octets f.live) (offer_fits v d octets past l n (offer_opened v d octets h) f);
    })

-- ## All of them

offer_by_state : StationSetting → ℕ → List ℕ → State → ℕ → Option StationError
offer_by_state s d octets o q =
    let v : StationView = record { state = λ e. o; queued = q; probe = None } in
    or_else (if d == 0 then Some ControlChannel else if not (is_opened o) then Some NotOpen else None) (if_no_room s v (Offer d octets))

offer_seen : (v : Station) (past : List Act) (d : ℕ) (octets : List ℕ) → StationFits v past → d < 62 → refused (setting_of v) (seen_in v) (Offer d octets) ≡ refused (setting_of v) (station_view (setting_of v) past) (Offer d octets)
unfolding offer_by_state
offer_seen v past d octets h l =
    ap (λ (w : State). offer_by_state (setting_of v) d octets w (octets_of v.queue)) (seen_state v past d h l)
    ∙ ap (λ (n : ℕ). offer_by_state (setting_of v) d octets (state_of v.role d past) n) (seen_queued v past h)

-- each call is refused by what a station keeps just as by each past that it fits
pub sees_the_past : (v : Station) (past : List Act) (c : Call) → SeesThePast v past c
sees_the_past v past (Open d) h l = open_seen v past d h l
sees_the_past v past (Close d) h l = close_seen v past d h l
sees_the_past v past (Probe octets) h l = probe_seen v past octets h
sees_the_past v past Stop h l = stop_seen v past h
sees_the_past v past (Flow d go) h l = flow_seen v past d go h l
sees_the_past v past (Offer d octets) h l = offer_seen v past d octets h l
