-- A frame that is no message leads from each past that the station fits to one that it fits.
use Rattle.std.specs.Prelude.{◌≡◌, ◌≢◌, ℕ, ◌<◌, ◌==◌, ◌&&◌, ◌||◌, not, Bool, true, false, List, [], ◌∷◌, length, refl, if◌then◌else◌, Option, Some, None, replicate}
use Rattle.std.proofs.Common.{◌∙◌, ap, sym, subst, eqb-true, get_or-set_same, get_or-set_other, eq-eqb, arith}
use Rattle.std.proofs.lemmas.Bool.{eqb-false, ne_eqb}
use Rattle.std.proofs.lemmas.List.{get_or-replicate}
use Rattle.mux_frame.specs.Frames.{Frame}
use Rattle.mux_frame.specs.declared.frame.Kind.{Kind}
use Rattle.mux_frame.specs.declared.frame.Kind.TheVariants.{Sabm, Ua, Dm, Disc, Uih}
use Rattle.mux_station.specs.declared.role.Role.{Role}
use Rattle.mux_station.specs.declared.role.Role.TheVariants.{Initiator, Responder}
use Rattle.mux_station.specs.declared.row.Turn.{Turn}
use Rattle.mux_station.specs.declared.row.Turn.TheVariants.{Stays, Opens, Shuts}
use Rattle.mux_station.specs.Written.{is_kind, is_on}
use Rattle.mux_station.specs.Messages.{Message, message_in, message_of, cld}
use Rattle.mux_station.specs.Acts.{Act, Got}
use Rattle.mux_station.specs.Opening.{is_mode_frame, opens_now, since}
use Rattle.mux_station.specs.States.{State, IsShut, IsOpened, is_opened, got_by, state_of}
use Rattle.mux_station.specs.Stopping.{last_said, got_says, msc_says, flow_says, if_message}
use Rattle.mux_station.specs.Tables.{is_opening}
use Rattle.mux_station.specs.Sending.{StationSetting, Waiting, probe_of, probe_after, zero_stays, brings_probe_back, refuses_probe}
use Rattle.mux_station.specs.Stations.{Channel, Station, shut_channel, channel_at, setting_of}
use Rattle.mux_station.specs.Fitting.{ChannelFits, StationFits}
use Rattle.mux_station.specs.Ticking.{turned_in}
use Rattle.mux_station.specs.Getting.{TurnsBy, turned, is_opens, opens_by, all_turned_in, turned_by}
use Rattle.mux_station.proofs.states.StatesAfterActs.{shut_now, opened_now, untouched, since_opens}
use Rattle.mux_station.proofs.user_calls.CallFrames.{AllStopped, all_untouched, probe_needs}
use Rattle.mux_station.proofs.user_calls.OpenAndClose.{stop_in_past, is_opened_state}
use Rattle.mux_station.proofs.received.StatesAfterFrames.{ends_zero, state_own, state_other, state_beside_zero, opens_elsewhere, opens_own, no_command}

abbrev fresh : State → Channel
fresh t = record { state = t; is_stopped = false; waiting = [] }

-- ## What a frame that is no message says

no_message_in : (f : Frame) → is_on Uih 0 f ≡ false → message_in f ≡ None
no_message_in f h = ap (λ (b : Bool). if b then message_of f.info else None) h

says_nothing : (say : Message → Option Bool) (f : Frame) → is_on Uih 0 f ≡ false → got_says say (Got f) ≡ None
says_nothing say f h = ap (λ (m : Option Message). if_message say m) (no_message_in f h)

-- ## The probe

-- what a frame leaves of the probe, where 0 stays open
abbrev pub kept : Bool → Option Message → Option Waiting → Option Waiting
kept z m None = None
kept z m (Some w) = if z && not (brings_probe_back w.data_octets m || refuses_probe m) then Some w else None

-- a frame that comes leaves that of the probe, by the message that it brings
pub got_kept : (s : StationSetting) (z : Bool) (o : Option Waiting) (f : Frame) → probe_after s z o (Got f) ≡ kept z (message_in f) o
got_kept s z None f = refl
got_kept s z (Some w) f = refl

kept_none : (z : Bool) (o : Option Waiting) → (z ≡ false → o ≡ None) → kept z None o ≡ o
kept_none z None h = refl
kept_none true (Some w) h = refl
kept_none false (Some w) h = absurd (let e : Some w ≡ None = h refl in cc)

-- and nothing where 0 doesn't stay open
pub kept_off : (m : Option Message) (o : Option Waiting) → kept false m o ≡ None
kept_off m None = refl
kept_off m (Some w) = refl

and_on : (b : Bool) → (b && true) ≡ b
and_on true = refl
and_on false = refl

and_off : (b : Bool) → (b && false) ≡ false
and_off true = refl
and_off false = refl

-- 0 stays as it is
pub zero_stays_same : (s : StationSetting) (past : List Act) (f : Frame) → opens_now s.role 0 past (Got f) ≡ false → state_of s.role 0 (Got f ∷ past) ≡ state_of s.role 0 past → zero_stays s past (Got f) ≡ is_opened (state_of s.role 0 past)
zero_stays_same s past f n e =
    ap (λ (b : Bool). is_opened (state_of s.role 0 (Got f ∷ past)) && not b) n ∙ (and_on (is_opened (state_of s.role 0 (Got f ∷ past))) ∙ ap is_opened e)

probe_same : (s : StationSetting) (past : List Act) (f : Frame) → is_on Uih 0 f ≡ false → opens_now s.role 0 past (Got f) ≡ false → state_of s.role 0 (Got f ∷ past) ≡ state_of s.role 0 past → probe_of s (Got f ∷ past) ≡ probe_of s past
probe_same s past f h n e =
    let z = is_opened (state_of s.role 0 past) in
    got_kept s (zero_stays s past (Got f)) (probe_of s past) f
    ∙ (ap (λ (b : Bool). kept b (message_in f) (probe_of s past)) (zero_stays_same s past f n e)
    ∙ (ap (λ (m : Option Message). kept z m (probe_of s past)) (no_message_in f h)
    ∙ kept_none z (probe_of s past) (λ (k : z ≡ false). probe_needs s past k)))

-- 0 opens anew, or closes
pub probe_gone : (s : StationSetting) (past : List Act) (f : Frame) → zero_stays s past (Got f) ≡ false → probe_of s (Got f ∷ past) ≡ None
probe_gone s past f h = got_kept s (zero_stays s past (Got f)) (probe_of s past) f ∙ (ap (λ (b : Bool). kept b (message_in f) (probe_of s past)) h ∙ kept_off (message_in f) (probe_of s past))

-- ## The tables

opened_shut : IsOpened ≡ IsShut → ⊥
opened_shut h = let e : true ≡ false = ap is_opened h in cc

-- whether 0, which was Opened, is ended, where it is turned and where it stays
stays_open : (r : Role) (k : Kind) → TurnsBy r true IsOpened k Stays → ends_zero k true false true ≡ false
stays_open Initiator Sabm t = absurd (let e : IsOpened ≡ IsShut = t.state in opened_shut e)
stays_open Initiator Ua t = refl
stays_open Initiator Dm t = absurd (let e : IsOpened ≡ IsShut = t.state in opened_shut e)
stays_open Initiator Disc t = absurd (let e : IsOpened ≡ IsShut = t.state in opened_shut e)
stays_open Initiator Uih t = refl
stays_open Responder Sabm t = absurd (let e : false ≡ true = t.opens in cc)
stays_open Responder Ua t = refl
stays_open Responder Dm t = absurd (let e : IsOpened ≡ IsShut = t.state in opened_shut e)
stays_open Responder Disc t = absurd (let e : IsOpened ≡ IsShut = t.state in opened_shut e)
stays_open Responder Uih t = refl

turned_ends : (r : Role) (k : Kind) (t : Turn) → TurnsBy r true IsOpened k t → t ≢ Stays → ends_zero k true false true ≡ true
turned_ends r k Stays t n = absurd (n refl)
turned_ends Initiator Sabm Opens t n = refl
turned_ends Initiator Ua Opens t n = absurd (let e : true ≡ false = t.opens in cc)
turned_ends Initiator Dm Opens t n = refl
turned_ends Initiator Disc Opens t n = refl
turned_ends Initiator Uih Opens t n = absurd (let e : true ≡ false = t.opens in cc)
turned_ends Responder Sabm Opens t n = refl
turned_ends Responder Ua Opens t n = absurd (let e : true ≡ false = t.opens in cc)
turned_ends Responder Dm Opens t n = refl
turned_ends Responder Disc Opens t n = refl
turned_ends Responder Uih Opens t n = absurd (let e : true ≡ false = t.opens in cc)
turned_ends Initiator Sabm Shuts t n = refl
turned_ends Initiator Ua Shuts t n = absurd (opened_shut (sym (let e : IsShut ≡ IsOpened = t.state in e)))
turned_ends Initiator Dm Shuts t n = refl
turned_ends Initiator Disc Shuts t n = refl
turned_ends Initiator Uih Shuts t n = absurd (opened_shut (sym (let e : IsShut ≡ IsOpened = t.state in e)))
turned_ends Responder Sabm Shuts t n = refl
turned_ends Responder Ua Shuts t n = absurd (opened_shut (sym (let e : IsShut ≡ IsOpened = t.state in e)))
turned_ends Responder Dm Shuts t n = refl
turned_ends Responder Disc Shuts t n = refl
turned_ends Responder Uih Shuts t n = absurd (opened_shut (sym (let e : IsShut ≡ IsOpened = t.state in e)))

-- what opens a connection but 0 has 0 Opened
opens_needs : (r : Role) (z : Bool) (own : State) (k : Kind) → opens_by r z own k ≡ true → (z ≡ false → own ≡ IsShut) → z ≡ true
opens_needs r true own k o h = refl
opens_needs Initiator false own k o h = absurd (shut_opens own k o (h refl))
  where
    shut_opens : (own : State) (k : Kind) → (is_kind k Ua && is_opening own) ≡ true → own ≡ IsShut → ⊥
    shut_opens own k o h = let e : false ≡ true = sym (ap (λ (s : State). is_kind k Ua && is_opening s) h ∙ and_off (is_kind k Ua)) ∙ o in cc
opens_needs Responder false own k o h = let e : false ≡ true = sym (and_off (is_kind k Sabm)) ∙ o in cc

-- ## One frame

-- the frame is no message, and this turns its connection
pub record TableFrame (v : Station) (f : Frame) (t : Turn) (past : List Act) : Type 0 where
  pub all : length v.channels ≡ 62
  pub in_range : f.dlci < 62
  pub no_message : is_on Uih 0 f ≡ false
  pub turns : TurnsBy v.role ((f.dlci == 0) || is_opened (channel_at v 0).state) (channel_at v f.dlci).state f.kind t
  pub fits : StationFits v past

-- its connection afterwards
own_state : (v : Station) (f : Frame) (t : Turn) (past : List Act) → TableFrame v f t past → state_of v.role f.dlci (Got f ∷ past) ≡ turned t (channel_at v f.dlci).state
own_state v f t past w =
    let z = (w.fits.channels_are 0 (omega arith)).state_is in
    let s = (w.fits.channels_are f.dlci w.in_range).state_is in
    state_own v.role past f w.no_message
    ∙ (ap (λ (u : State). got_by v.role ((f.dlci == 0) || is_opened u) (state_of v.role f.dlci past) f.kind) z
    ∙ (ap (λ (u : State). got_by v.role ((f.dlci == 0) || is_opened (channel_at v 0).state) u f.kind) s
    ∙ sym w.turns.state))

own_opens : (v : Station) (f : Frame) (t : Turn) (past : List Act) → TableFrame v f t past → opens_now v.role f.dlci past (Got f) ≡ is_opens t
own_opens v f t past w =
    let z = (w.fits.channels_are 0 (omega arith)).state_is in
    opens_own v.role past f (channel_at v f.dlci) (w.fits.channels_are f.dlci w.in_range)
    ∙ (ap (λ (u : State). opens_by v.role ((f.dlci == 0) || is_opened u) (channel_at v f.dlci).state f.kind) z ∙ sym w.turns.opens)

-- a connection that it leaves as it is
left : (v : Station) (f : Frame) (t : Turn) (past : List Act) (e : ℕ) → TableFrame v f t past → e < 62 → opens_now v.role e past (Got f) ≡ false → state_of v.role e (Got f ∷ past) ≡ (channel_at v e).state → ChannelFits v.role e (Got f ∷ past) (channel_at v e)
left v f t past e w l n s = untouched v.role e past (Got f) (channel_at v e) (w.fits.channels_are e l) s n refl (says_nothing (msc_says e) f w.no_message) refl refl

-- the states of the others, where the frame is on 0
beside : (v : Station) (f : Frame) (t : Turn) (past : List Act) (e : ℕ) (z : Bool) → is_opened (channel_at v 0).state ≡ z → TableFrame v f t past → (f.dlci == 0) ≡ true → e < 62 → (f.dlci == e) ≡ false
    → state_of v.role e (Got f ∷ past) ≡ (if ends_zero f.kind true false z then IsShut else (channel_at v e).state)
beside v f t past e z o w k l n =
    let zero : f.dlci ≡ 0 = eqb-true f.dlci 0 k in
    let no_zero : (e == 0) ≡ false = zero_apart e f.dlci zero n in
    let up : is_opened (state_of v.role 0 past) ≡ z = ap is_opened (w.fits.channels_are 0 (omega arith)).state_is ∙ o in
    state_beside_zero v.role e past f no_zero k n
    ∙ (ap (λ (b : Bool). if ends_zero f.kind true b (is_opened (state_of v.role 0 past)) then IsShut else state_of v.role e past) (no_command f cld w.no_message)
    ∙ (ap (λ (b : Bool). if ends_zero f.kind true false b then IsShut else state_of v.role e past) up
    ∙ ap (λ (s : State). if ends_zero f.kind true false z then IsShut else s) (w.fits.channels_are e l).state_is))
  where
    zero_apart : (e d : ℕ) → d ≡ 0 → (d == e) ≡ false → (e == 0) ≡ false
    zero_apart e d z n = by_test (e == 0) refl
      where
        by_test : (b : Bool) → (e == 0) ≡ b → b ≡ false
        by_test false h = refl
        by_test true h = absurd (eqb-false d e n (z ∙ sym (eqb-true e 0 h)))

if_same : (b : Bool) (s : State) → (if b then s else s) ≡ s
if_same true s = refl
if_same false s = refl

-- ## Its connection stays as it is

stays_beside : (v : Station) (f : Frame) (past : List Act) (e : ℕ) (z : Bool) → is_opened (channel_at v 0).state ≡ z → TableFrame v f Stays past → (f.dlci == 0) ≡ true → e < 62 → (f.dlci == e) ≡ false → (e == 0) ≡ false
    → state_of v.role e (Got f ∷ past) ≡ (channel_at v e).state
stays_beside v f past e false o w k l n z =
    let shut : (channel_at v e).state ≡ IsShut = w.fits.others_shut o e l z in
    beside v f Stays past e false o w k l n ∙ (ap (λ (s : State). if ends_zero f.kind true false false then IsShut else s) shut ∙ (if_same (ends_zero f.kind true false false) IsShut ∙ sym shut))
stays_beside v f past e true o w k l n z =
    let zero : f.dlci ≡ 0 = eqb-true f.dlci 0 k in
    let opened : (channel_at v 0).state ≡ IsOpened = is_opened_state (channel_at v 0).state o in
    let turns : TurnsBy v.role true IsOpened f.kind Stays
    = subst (λ (s : State). TurnsBy v.role true s f.kind Stays) opened
    (subst (λ (m : ℕ). TurnsBy v.role true (channel_at v m).state f.kind Stays) zero
    (subst (λ (b : Bool). TurnsBy v.role (b || is_opened (channel_at v 0).state) (channel_at v f.dlci).state f.kind Stays) k w.turns)) in
    beside v f Stays past e true o w k l n ∙ ap (λ (b : Bool). if b then IsShut else (channel_at v e).state) (stays_open v.role f.kind turns)

stays_state : (v : Station) (f : Frame) (past : List Act) (e : ℕ) (b c : Bool) → (f.dlci == e) ≡ b → (f.dlci == 0) ≡ c → TableFrame v f Stays past → e < 62 → state_of v.role e (Got f ∷ past) ≡ (channel_at v e).state
stays_state v f past e true c k z w l = subst (λ (m : ℕ). state_of v.role m (Got f ∷ past) ≡ (channel_at v m).state) (eqb-true f.dlci e k) (own_state v f Stays past w)
stays_state v f past e false false k z w l = state_other v.role e past f z k ∙ (w.fits.channels_are e l).state_is
stays_state v f past e false true k z w l =
    let zero : f.dlci ≡ 0 = eqb-true f.dlci 0 z in
    stays_beside v f past e (is_opened (channel_at v 0).state) refl w z l k (ne_eqb e 0 (λ (g : e ≡ 0). eqb-false f.dlci e k (zero ∙ sym g)))

stays_opens : (v : Station) (f : Frame) (past : List Act) (e : ℕ) (b : Bool) → (f.dlci == e) ≡ b → TableFrame v f Stays past → opens_now v.role e past (Got f) ≡ false
stays_opens v f past e true k w = subst (λ (m : ℕ). opens_now v.role m past (Got f) ≡ false) (eqb-true f.dlci e k) (own_opens v f Stays past w)
stays_opens v f past e false k w = opens_elsewhere v.role e past f k

-- 0 stays as it is, and so the stop of all and the probe
all_left : (v : Station) (f : Frame) (t : Turn) (past : List Act) → TableFrame v f t past → state_of v.role 0 (Got f ∷ past) ≡ state_of v.role 0 past → opens_now v.role 0 past (Got f) ≡ false → AllStopped v.role (Got f ∷ past) v.all_stopped
all_left v f t past w e n = all_untouched v.role past (Got f) v.all_stopped (stop_in_past v past w.fits) e n (says_nothing flow_says f w.no_message)

probe_left : (v : Station) (f : Frame) (t : Turn) (past : List Act) → TableFrame v f t past → state_of v.role 0 (Got f ∷ past) ≡ state_of v.role 0 past → opens_now v.role 0 past (Got f) ≡ false → probe_of (setting_of v) (Got f ∷ past) ≡ v.probe
probe_left v f t past w e n = probe_same (setting_of v) past f w.no_message n e ∙ w.fits.probe_is

stays_fits : (v : Station) (f : Frame) (past : List Act) → TableFrame v f Stays past → StationFits v (Got f ∷ past)
stays_fits v f past w =
    let zero : state_of v.role 0 (Got f ∷ past) ≡ (channel_at v 0).state = stays_state v f past 0 (f.dlci == 0) (f.dlci == 0) refl refl w (omega arith) in
    let same : state_of v.role 0 (Got f ∷ past) ≡ state_of v.role 0 past = zero ∙ sym (w.fits.channels_are 0 (omega arith)).state_is in
    let none = stays_opens v f past 0 (f.dlci == 0) refl w in
    record {
      live = w.fits.live;
      channels_are = λ e l. left v f Stays past e w l (stays_opens v f past e (f.dlci == e) refl w) (stays_state v f past e (f.dlci == e) (f.dlci == 0) refl refl w l);
      others_shut = w.fits.others_shut;
      stop_of_all_is = λ o. all_left v f Stays past w same none (ap is_opened zero ∙ o);
      probe_is = probe_left v f Stays past w same none;
      queue_is = w.fits.queue_is;
      last_is = w.fits.last_is;
    }

-- ## Its connection is turned

abbrev is_stays : Turn → Bool
is_stays Stays = true
is_stays _ = false

-- it opens or is shut
pub record Turned (t : Turn) (s : State) : Type 0 where
  pub moves : t ≢ Stays
  pub to : (own : State) → turned t own ≡ s
  pub opens : is_opens t ≡ is_opened s
  pub shut_or_opened : is_opened s ≡ false → s ≡ IsShut
  pub opened_state : is_opened s ≡ true → s ≡ IsOpened

turn_apart : (t u : Turn) → is_stays t ≡ false → is_stays u ≡ true → t ≢ u
turn_apart t u h k e = let g : false ≡ true = sym h ∙ (ap is_stays e ∙ k) in cc

turned_open : Turned Opens IsOpened
turned_open = record { moves = turn_apart Opens Stays refl refl; to = λ own. refl; opens = refl; shut_or_opened = λ h. let g : true ≡ false = h in cc; opened_state = λ h. refl }

-- a turn that shuts leads to Shut, from whatever state
pub turned_closed : Turned Shuts IsShut
turned_closed = record { moves = turn_apart Shuts Stays refl refl; to = λ own. refl; opens = refl; shut_or_opened = λ h. refl; opened_state = λ h. let g : false ≡ true = h in cc }

-- a mode frame on its connection, that opens it, is a UA or SABM
opening_by_mode : (r : Role) (z : Bool) (own : State) (k : Kind) → opens_by r z own k ≡ true → (is_kind k Sabm || is_kind k Ua) ≡ true
opening_by_mode Initiator z own Sabm h = refl
opening_by_mode Initiator z own Ua h = refl
opening_by_mode Initiator z own Dm h = cc
opening_by_mode Initiator z own Disc h = cc
opening_by_mode Initiator z own Uih h = cc
opening_by_mode Responder z own Sabm h = refl
opening_by_mode Responder z own Ua h = refl
opening_by_mode Responder z own Dm h = cc
opening_by_mode Responder z own Disc h = cc
opening_by_mode Responder z own Uih h = cc

table_by : (f : Frame) (b : Bool) → (f.dlci == f.dlci) ≡ b → b ≡ true → (is_kind f.kind Sabm || is_kind f.kind Ua) ≡ true → is_mode_frame f.dlci (Got f) ≡ true
table_by f b e t h =
    ap (λ (o : Bool). (is_kind f.kind Sabm && o) || ((is_kind f.kind Ua && o) || ((is_kind f.kind Dm && o) || (is_kind f.kind Disc && o)))) (e ∙ t)
    ∙ both (is_kind f.kind Sabm) (is_kind f.kind Ua) ((is_kind f.kind Dm && true) || (is_kind f.kind Disc && true)) h
  where
    both : (b c x : Bool) → (b || c) ≡ true → ((b && true) || ((c && true) || x)) ≡ true
    both true c x h = refl
    both false true x h = refl
    both false false x h = cc

-- its own connection, turned
turned_own : (v : Station) (f : Frame) (t : Turn) (s : State) (past : List Act) (b : Bool) → is_opened s ≡ b → Turned t s → TableFrame v f t past → ChannelFits v.role f.dlci (Got f ∷ past) (fresh s)
turned_own v f t s past false o u w = shut_now v.role f.dlci (Got f ∷ past) (fresh s) (own_state v f t past w ∙ u.to (channel_at v f.dlci).state) o
turned_own v f t s past true o u w =
    let opened : s ≡ IsOpened = u.opened_state o in
    let opens : is_opens t ≡ true = u.opens ∙ o in
    let mode = table_by f (f.dlci == f.dlci) refl (eq-eqb f.dlci f.dlci refl) (opening_by_mode v.role ((f.dlci == 0) || is_opened (channel_at v 0).state) (channel_at v f.dlci).state f.kind (sym w.turns.opens ∙ opens)) in
    subst (λ (x : State). ChannelFits v.role f.dlci (Got f ∷ past) (fresh x)) (sym opened)
    (opened_now v.role f.dlci past (Got f) (own_opens v f t past w ∙ opens) refl mode (own_state v f t past w ∙ (u.to (channel_at v f.dlci).state ∙ opened)))

-- ### On another connection than 0

lane_place : (v : Station) (f : Frame) (t : Turn) (s : State) (past : List Act) → TableFrame v f t past → channel_at (turned_in v f.dlci s) f.dlci ≡ fresh s
lane_place v f t s past w = get_or-set_same v.channels f.dlci (fresh s) shut_channel (subst (λ (m : ℕ). f.dlci < m) (sym w.all) w.in_range)

lane_others : (v : Station) (f : Frame) (s : State) (e : ℕ) → (f.dlci == e) ≡ false → channel_at (turned_in v f.dlci s) e ≡ channel_at v e
lane_others v f s e k = get_or-set_other v.channels f.dlci e (fresh s) shut_channel (λ (g : e ≡ f.dlci). eqb-false f.dlci e k (sym g))

lane_each : (v : Station) (f : Frame) (t : Turn) (s : State) (past : List Act) (e : ℕ) (b : Bool) → (f.dlci == e) ≡ b → Turned t s → TableFrame v f t past → (f.dlci == 0) ≡ false → e < 62 → ChannelFits v.role e (Got f ∷ past) (channel_at (turned_in v f.dlci s) e)
lane_each v f t s past e true k u w z l =
    subst (λ (m : ℕ). ChannelFits v.role m (Got f ∷ past) (channel_at (turned_in v f.dlci s) m)) (eqb-true f.dlci e k)
    (subst (λ (c : Channel). ChannelFits v.role f.dlci (Got f ∷ past) c) (sym (lane_place v f t s past w)) (turned_own v f t s past (is_opened s) refl u w))
lane_each v f t s past e false k u w z l =
    subst (λ (c : Channel). ChannelFits v.role e (Got f ∷ past) c) (sym (lane_others v f s e k))
    (left v f t past e w l (opens_elsewhere v.role e past f k) (state_other v.role e past f z k ∙ (w.fits.channels_are e l).state_is))

-- where 0 isn't Opened, it is shut
lane_shut : (v : Station) (f : Frame) (t : Turn) (s : State) (past : List Act) (b : Bool) → is_opened s ≡ b → Turned t s → TableFrame v f t past → (f.dlci == 0) ≡ false → is_opened (channel_at v 0).state ≡ false → s ≡ IsShut
lane_shut v f t s past false o u w z h = u.shut_or_opened o
lane_shut v f t s past true o u w z h =
    let opens : opens_by v.role ((f.dlci == 0) || is_opened (channel_at v 0).state) (channel_at v f.dlci).state f.kind ≡ true = sym w.turns.opens ∙ (u.opens ∙ o) in
    let there : opens_by v.role (is_opened (channel_at v 0).state) (channel_at v f.dlci).state f.kind ≡ true = subst (λ (b : Bool). opens_by v.role (b || is_opened (channel_at v 0).state) (channel_at v f.dlci).state f.kind ≡ true) z opens in
    let up : is_opened (channel_at v 0).state ≡ true = opens_needs v.role (is_opened (channel_at v 0).state) (channel_at v f.dlci).state f.kind there (λ (k : is_opened (channel_at v 0).state ≡ false). w.fits.others_shut k f.dlci w.in_range z) in
    absurd (let g : false ≡ true = sym h ∙ up in cc)

lane_fits : (v : Station) (f : Frame) (t : Turn) (s : State) (past : List Act) → Turned t s → TableFrame v f t past → (f.dlci == 0) ≡ false → StationFits (turned_in v f.dlci s) (Got f ∷ past)
lane_fits v f t s past u w z =
    let zero : channel_at (turned_in v f.dlci s) 0 ≡ channel_at v 0 = lane_others v f s 0 z in
    let same : state_of v.role 0 (Got f ∷ past) ≡ state_of v.role 0 past = state_other v.role 0 past f z z in
    let none = opens_elsewhere v.role 0 past f z in
    record {
      live = w.fits.live;
      channels_are = λ e l. lane_each v f t s past e (f.dlci == e) refl u w z l;
      others_shut = λ o e l k. by_place e l k (ap (λ (c : Channel). is_opened c.state) (sym zero) ∙ o) (f.dlci == e) refl;
      stop_of_all_is = λ o. all_left v f t past w same none (ap is_opened (same ∙ ((w.fits.channels_are 0 (omega arith)).state_is ∙ ap (λ (c : Channel). c.state) (sym zero))) ∙ o);
      probe_is = probe_left v f t past w same none;
      queue_is = w.fits.queue_is;
      last_is = w.fits.last_is;
    }
  where
    by_place : (e : ℕ) → e < 62 → (e == 0) ≡ false → is_opened (channel_at v 0).state ≡ false → (b : Bool) → (f.dlci == e) ≡ b → (channel_at (turned_in v f.dlci s) e).state ≡ IsShut
    by_place e l k o false n = ap (λ (c : Channel). c.state) (lane_others v f s e n) ∙ w.fits.others_shut o e l k
    by_place e l k o true n =
        subst (λ (m : ℕ). (channel_at (turned_in v f.dlci s) m).state ≡ IsShut) (eqb-true f.dlci e n)
        (ap (λ (c : Channel). c.state) (lane_place v f t s past w) ∙ lane_shut v f t s past (is_opened s) refl u w z o)

-- ### On 0

-- where all are turned, 0 is in its new state and has everything afresh
pub zero_place : (v : Station) (s : State) → channel_at (all_turned_in v s) 0 ≡ fresh s
zero_place v s = get_or-set_same (replicate 62 shut_channel) 0 (fresh s) shut_channel (omega arith)

-- and every other connection is shut
pub zero_others : (v : Station) (s : State) (e : ℕ) → e < 62 → (e == 0) ≡ false → channel_at (all_turned_in v s) e ≡ shut_channel
zero_others v s e l k =
    get_or-set_other (replicate 62 shut_channel) 0 e (fresh s) shut_channel (λ (g : e ≡ 0). eqb-false e 0 k g) ∙ get_or-replicate 62 e shut_channel shut_channel l

-- every other connection is shut
turned_beside : (v : Station) (f : Frame) (t : Turn) (s : State) (past : List Act) (e : ℕ) (z : Bool) → is_opened (channel_at v 0).state ≡ z → Turned t s → TableFrame v f t past → (f.dlci == 0) ≡ true → e < 62 → (e == 0) ≡ false
    → state_of v.role e (Got f ∷ past) ≡ IsShut
turned_beside v f t s past e false o u w k l z =
    let zero : f.dlci ≡ 0 = eqb-true f.dlci 0 k in
    let apart : (f.dlci == e) ≡ false = ne_eqb f.dlci e (λ (g : f.dlci ≡ e). eqb-false e 0 z (sym g ∙ zero)) in
    let shut : (channel_at v e).state ≡ IsShut = w.fits.others_shut o e l z in
    beside v f t past e false o w k l apart ∙ (ap (λ (s : State). if ends_zero f.kind true false false then IsShut else s) shut ∙ if_same (ends_zero f.kind true false false) IsShut)
turned_beside v f t s past e true o u w k l z =
    let zero : f.dlci ≡ 0 = eqb-true f.dlci 0 k in
    let apart : (f.dlci == e) ≡ false = ne_eqb f.dlci e (λ (g : f.dlci ≡ e). eqb-false e 0 z (sym g ∙ zero)) in
    let opened : (channel_at v 0).state ≡ IsOpened = is_opened_state (channel_at v 0).state o in
    let turns : TurnsBy v.role true IsOpened f.kind t
    = subst (λ (s : State). TurnsBy v.role true s f.kind t) opened
    (subst (λ (m : ℕ). TurnsBy v.role true (channel_at v m).state f.kind t) zero
    (subst (λ (b : Bool). TurnsBy v.role (b || is_opened (channel_at v 0).state) (channel_at v f.dlci).state f.kind t) k w.turns)) in
    beside v f t past e true o w k l apart ∙ ap (λ (b : Bool). if b then IsShut else (channel_at v e).state) (turned_ends v.role f.kind t turns u.moves)

zero_each : (v : Station) (f : Frame) (t : Turn) (s : State) (past : List Act) (e : ℕ) (b : Bool) → (e == 0) ≡ b → Turned t s → TableFrame v f t past → (f.dlci == 0) ≡ true → e < 62 → ChannelFits v.role e (Got f ∷ past) (channel_at (all_turned_in v s) e)
zero_each v f t s past e true k u w z l =
    let zero : f.dlci ≡ 0 = eqb-true f.dlci 0 z in
    let own : ChannelFits v.role 0 (Got f ∷ past) (fresh s) = subst (λ (m : ℕ). ChannelFits v.role m (Got f ∷ past) (fresh s)) zero (turned_own v f t s past (is_opened s) refl u w) in
    subst (λ (m : ℕ). ChannelFits v.role m (Got f ∷ past) (channel_at (all_turned_in v s) m)) (sym (eqb-true e 0 k))
    (subst (λ (c : Channel). ChannelFits v.role 0 (Got f ∷ past) c) (sym (zero_place v s)) own)
zero_each v f t s past e false k u w z l =
    subst (λ (c : Channel). ChannelFits v.role e (Got f ∷ past) c) (sym (zero_others v s e l k))
    (shut_now v.role e (Got f ∷ past) shut_channel (turned_beside v f t s past e (is_opened (channel_at v 0).state) refl u w z l k) refl)

-- where 0 opens, it does so anew
zero_since : (v : Station) (f : Frame) (t : Turn) (s : State) (past : List Act) → Turned t s → TableFrame v f t past → (f.dlci == 0) ≡ true → is_opened s ≡ true → since v.role 0 (Got f ∷ past) ≡ []
zero_since v f t s past u w z o =
    since_opens v.role 0 past (Got f) (subst (λ (m : ℕ). opens_now v.role m past (Got f) ≡ true) (eqb-true f.dlci 0 z) (own_opens v f t past w ∙ (u.opens ∙ o)))

zero_gone : (v : Station) (f : Frame) (t : Turn) (s : State) (past : List Act) (b : Bool) → is_opened s ≡ b → Turned t s → TableFrame v f t past → (f.dlci == 0) ≡ true → zero_stays (setting_of v) past (Got f) ≡ false
zero_gone v f t s past b o u w z =
    let zero : f.dlci ≡ 0 = eqb-true f.dlci 0 z in
    let state : state_of v.role 0 (Got f ∷ past) ≡ s = subst (λ (m : ℕ). state_of v.role m (Got f ∷ past) ≡ s) zero (own_state v f t past w ∙ u.to (channel_at v f.dlci).state) in
    let opens : opens_now v.role 0 past (Got f) ≡ is_opened s = subst (λ (m : ℕ). opens_now v.role m past (Got f) ≡ is_opened s) zero (own_opens v f t past w ∙ u.opens) in
    ap (λ (x : State). is_opened x && not (opens_now v.role 0 past (Got f))) state ∙ (ap (λ (c : Bool). is_opened s && not c) opens ∙ neither (is_opened s))
  where
    neither : (b : Bool) → (b && not b) ≡ false
    neither true = refl
    neither false = refl

-- where such a frame is on 0 and turns it, the station with all turned fits the past with the frame
pub zero_fits : (v : Station) (f : Frame) (t : Turn) (s : State) (past : List Act) → Turned t s → TableFrame v f t past → (f.dlci == 0) ≡ true → StationFits (all_turned_in v s) (Got f ∷ past)
zero_fits v f t s past u w z = record {
  live = w.fits.live;
  channels_are = λ e l. zero_each v f t s past e (e == 0) refl u w z l;
  others_shut = λ o e l k. ap (λ (c : Channel). c.state) (zero_others v s e l k);
  stop_of_all_is = λ o. ap (last_said (got_says flow_says)) (zero_since v f t s past u w z (ap (λ (c : Channel). is_opened c.state) (sym (zero_place v s)) ∙ o));
  probe_is = probe_gone (setting_of v) past f (zero_gone v f t s past (is_opened s) refl u w z);
  queue_is = w.fits.queue_is;
  last_is = w.fits.last_is;
}

-- ## Each turn

turned_at : (v : Station) (f : Frame) (t : Turn) (s : State) (past : List Act) (b : Bool) → (f.dlci == 0) ≡ b → Turned t s → TableFrame v f t past → StationFits (if b then all_turned_in v s else turned_in v f.dlci s) (Got f ∷ past)
turned_at v f t s past true z u w = zero_fits v f t s past u w z
turned_at v f t s past false z u w = lane_fits v f t s past u w z

-- the station turned as the table says fits the past with the frame, at each turn
pub table_fits : (v : Station) (f : Frame) (t : Turn) (past : List Act) → TableFrame v f t past → StationFits (turned_by v f.dlci t) (Got f ∷ past)
table_fits v f Stays past w = stays_fits v f past w
table_fits v f Opens past w = turned_at v f Opens IsOpened past (f.dlci == 0) refl turned_open w
table_fits v f Shuts past w = turned_at v f Shuts IsShut past (f.dlci == 0) refl turned_closed w
