-- A control message leads from each past that the station fits to one that it fits.
use Rattle.std.specs.Prelude.{◌≡◌, ℕ, ◌<◌, ◌≤◌, ◌==◌, ◌&&◌, ◌||◌, not, nat_le, Bool, true, false, List, [], ◌∷◌, length, refl, if◌then◌else◌, Option, Some, None, slice_index_or, slice_set, unwrap_or}
use Rattle.std.proofs.Common.{◌∙◌, ap, sym, subst, eqb-true, get_or-set_same, get_or-set_other, eq-eqb, arith, append-nil}
use Rattle.std.proofs.lemmas.Bool.{eqb-false, ne_eqb, and_parts, and_from, leb-true, leb-false}
use Rattle.std.proofs.lemmas.List.{get_or_past}
use Rattle.mux_frame.specs.Frames.{Frame}
use Rattle.mux_frame.specs.declared.frame.Kind.{Kind}
use Rattle.mux_frame.specs.declared.frame.Kind.TheVariants.{Sabm, Ua, Dm, Disc, Uih}
use Rattle.mux_station.specs.declared.role.Role.{Role}
use Rattle.mux_station.specs.declared.role.Role.TheVariants.{Initiator, Responder}
use Rattle.mux_station.specs.Written.{is_kind, is_on}
use Rattle.mux_station.specs.Messages.{Message, message_in, message_of, command_of, octet_is, cld, msc, msc_dlci, msc_stops, brings_command, brings_response}
use Rattle.mux_station.specs.Acts.{Act, Got}
use Rattle.mux_station.specs.Opening.{is_asked, is_open, opens_now, since}
use Rattle.mux_station.specs.States.{State, IsShut, IsOpening, IsOpened, IsClosing, IsStopping, is_opened, at_close_down, got_by, state_of}
use Rattle.mux_station.specs.Stopping.{last_said, got_says, msc_says, flow_says, if_message}
use Rattle.mux_station.specs.Sending.{Waiting, probe_of, zero_stays, brings_probe_back, refuses_probe}
use Rattle.mux_station.specs.Stations.{Channel, Station, shut_channel, channel_at, setting_of}
use Rattle.mux_station.specs.Fitting.{ChannelFits, StationFits}
use Rattle.mux_station.specs.Getting.{all_turned_in, stops_set, probe_answered, message_taken}
use Rattle.mux_station.proofs.states.StatesAfterActs.{shut_now, untouched, goes_on, since_goes_on, opened_open}
use Rattle.mux_station.proofs.user_calls.CallFrames.{all_untouched, probe_needs}
use Rattle.mux_station.proofs.user_calls.OpenAndClose.{stop_in_past}
use Rattle.mux_station.proofs.received.StatesAfterFrames.{ends_zero, stays_up, state_zero, state_beside_zero}
use Rattle.mux_station.proofs.received.TableFrames.{kept, got_kept, zero_stays_same, probe_gone, zero_place, zero_others}

abbrev fresh : State → Channel
fresh t = record { state = t; is_stopped = false; waiting = [] }

and_off : (b : Bool) → (b && false) ≡ false
and_off true = refl
and_off false = refl

-- ## A frame with a message

kind_uih : (k : Kind) → is_kind k Uih ≡ true → k ≡ Uih
kind_uih Sabm h = cc
kind_uih Ua h = cc
kind_uih Dm h = cc
kind_uih Disc h = cc
kind_uih Uih h = refl

-- UIH on 0
pub record OnZero (f : Frame) : Type 0 where
  pub kind_is : f.kind ≡ Uih
  pub zero : (f.dlci == 0) ≡ true
  pub read : message_in f ≡ message_of f.info
  pub commands : brings_command cld f ≡ octet_is (λ n. n) cld (message_of f.info)
  pub responds : brings_response cld f ≡ octet_is command_of cld (message_of f.info)

-- a UIH on 0 brings what its information spells
pub on_zero : (f : Frame) → is_on Uih 0 f ≡ true → OnZero f
on_zero f h =
    let parts = and_parts (is_kind f.kind Uih) (f.dlci == 0) h in
    record {
      kind_is = kind_uih f.kind parts.0;
      zero = parts.1;
      read = ap (λ (b : Bool). if b then message_of f.info else None) h;
      commands = ap (λ (b : Bool). b && octet_is (λ n. n) cld (message_of f.info)) h;
      responds = ap (λ (b : Bool). b && octet_is command_of cld (message_of f.info)) h;
    }

got_uih : (r : Role) (s : State) → got_by r true s Uih ≡ s
got_uih Initiator IsShut = refl
got_uih Initiator (IsOpening n) = refl
got_uih Initiator IsOpened = refl
got_uih Initiator (IsClosing n) = refl
got_uih Initiator (IsStopping n) = refl
got_uih Responder IsShut = refl
got_uih Responder (IsOpening n) = refl
got_uih Responder IsOpened = refl
got_uih Responder (IsClosing n) = refl
got_uih Responder (IsStopping n) = refl

-- 0 afterwards
pub zero_told : (v : Station) (f : Frame) (past : List Act) → OnZero f → StationFits v past → state_of v.role 0 (Got f ∷ past) ≡ at_close_down (brings_command cld f) (brings_response cld f) (channel_at v 0).state
zero_told v f past o h =
    state_zero v.role past f o.zero
    ∙ (ap (λ (k : Kind). at_close_down (brings_command cld f) (brings_response cld f) (got_by v.role true (state_of v.role 0 past) k)) o.kind_is
    ∙ (ap (at_close_down (brings_command cld f) (brings_response cld f)) (got_uih v.role (state_of v.role 0 past))
    ∙ ap (at_close_down (brings_command cld f) (brings_response cld f)) (h.channels_are 0 (omega arith)).state_is))

-- another connection
other_told : (v : Station) (f : Frame) (past : List Act) (e : ℕ) → OnZero f → StationFits v past → e < 62 → (e == 0) ≡ false
    → state_of v.role e (Got f ∷ past) ≡ (if is_opened (channel_at v 0).state && brings_command cld f then IsShut else (channel_at v e).state)
other_told v f past e o h l k =
    let apart : (f.dlci == e) ≡ false = ne_eqb f.dlci e (λ (g : f.dlci ≡ e). eqb-false e 0 k (sym g ∙ eqb-true f.dlci 0 o.zero)) in
    state_beside_zero v.role e past f k o.zero apart
    ∙ (ap (λ (x : Kind). if ends_zero x true (brings_command cld f) (is_opened (state_of v.role 0 past)) then IsShut else state_of v.role e past) o.kind_is
    ∙ (ap (λ (s : State). if is_opened s && brings_command cld f then IsShut else state_of v.role e past) (h.channels_are 0 (omega arith)).state_is
    ∙ ap (λ (s : State). if is_opened (channel_at v 0).state && brings_command cld f then IsShut else s) (h.channels_are e l).state_is))

-- it opens no connection
pub opens_none : (r : Role) (e : ℕ) (past : List Act) (f : Frame) → OnZero f → opens_now r e past (Got f) ≡ false
opens_none Initiator e past f o = ap (λ (k : Kind). (is_kind k Ua && (f.dlci == e)) && is_asked Initiator e past) o.kind_is
opens_none Responder e past f o = ap (λ (k : Kind). (is_kind k Sabm && (f.dlci == e)) && ((e == 0) || is_open Responder 0 past)) o.kind_is

-- ## 0 is closed by it

closed_fits : (v : Station) (f : Frame) (past : List Act) → state_of v.role 0 (Got f ∷ past) ≡ IsShut → ((e : ℕ) → e < 62 → (e == 0) ≡ false → state_of v.role e (Got f ∷ past) ≡ IsShut) → StationFits v past → StationFits (all_turned_in v IsShut) (Got f ∷ past)
closed_fits v f past zero others h = record {
  live = h.live;
  channels_are = λ e l. each e l (e == 0) refl;
  others_shut = λ o e l k. ap (λ (c : Channel). c.state) (zero_others v IsShut e l k);
  stop_of_all_is = λ o. absurd (let g : false ≡ true = ap (λ (c : Channel). is_opened c.state) (sym (zero_place v IsShut)) ∙ o in cc);
  probe_is = probe_gone (setting_of v) past f (ap (λ (s : State). is_opened s && not (opens_now v.role 0 past (Got f))) zero);
  queue_is = h.queue_is;
  last_is = h.last_is;
}
  where
    each : (e : ℕ) → e < 62 → (b : Bool) → (e == 0) ≡ b → ChannelFits v.role e (Got f ∷ past) (channel_at (all_turned_in v IsShut) e)
    each e l true k =
        subst (λ (m : ℕ). ChannelFits v.role m (Got f ∷ past) (channel_at (all_turned_in v IsShut) m)) (sym (eqb-true e 0 k))
        (subst (λ (c : Channel). ChannelFits v.role 0 (Got f ∷ past) c) (sym (zero_place v IsShut)) (shut_now v.role 0 (Got f ∷ past) (fresh IsShut) zero refl))
    each e l false k =
        subst (λ (c : Channel). ChannelFits v.role e (Got f ∷ past) c) (sym (zero_others v IsShut e l k)) (shut_now v.role e (Got f ∷ past) shut_channel (others e l k) refl)

-- ## Nothing comes of it

record Passes (v : Station) (f : Frame) : Type 0 where
  zero : at_close_down (brings_command cld f) (brings_response cld f) (channel_at v 0).state ≡ (channel_at v 0).state
  others : (is_opened (channel_at v 0).state && brings_command cld f) ≡ false
  silent : is_opened (channel_at v 0).state ≡ true → message_in f ≡ None

same_told : (v : Station) (f : Frame) (past : List Act) (e : ℕ) (b : Bool) → (e == 0) ≡ b → OnZero f → Passes v f → StationFits v past → e < 62 → state_of v.role e (Got f ∷ past) ≡ (channel_at v e).state
same_told v f past e true k o p h l = subst (λ (m : ℕ). state_of v.role m (Got f ∷ past) ≡ (channel_at v m).state) (sym (eqb-true e 0 k)) (zero_told v f past o h ∙ p.zero)
same_told v f past e false k o p h l = other_told v f past e o h l k ∙ ap (λ (b : Bool). if b then IsShut else (channel_at v e).state) p.others

kept_silent : (o : Option Waiting) → kept true None o ≡ o
kept_silent None = refl
kept_silent (Some w) = refl

kept_nothing : (z : Bool) (m : Option Message) (o : Option Waiting) → o ≡ None → kept z m o ≡ o
kept_nothing z m None h = refl
kept_nothing z m (Some w) h = absurd (let e : Some w ≡ None = h in cc)

passed : (v : Station) (f : Frame) (past : List Act) (b : Bool) → is_opened (channel_at v 0).state ≡ b → OnZero f → Passes v f → StationFits v past → StationFits v (Got f ∷ past)
passed v f past b up o p h = record {
  live = h.live;
  channels_are = λ e l. each e l b up;
  others_shut = h.others_shut;
  stop_of_all_is = λ t. all b up t;
  probe_is = got_kept (setting_of v) (zero_stays (setting_of v) past (Got f)) (probe_of (setting_of v) past) f
      ∙ (ap (λ (z : Bool). kept z (message_in f) (probe_of (setting_of v) past)) (zero_stays_same (setting_of v) past f none same)
      ∙ (probe b (ap is_opened (h.channels_are 0 (omega arith)).state_is ∙ up) ∙ h.probe_is));
  queue_is = h.queue_is;
  last_is = h.last_is;
}
  where
    none : opens_now v.role 0 past (Got f) ≡ false
    none = opens_none v.role 0 past f o

    zero : state_of v.role 0 (Got f ∷ past) ≡ (channel_at v 0).state
    zero = same_told v f past 0 true refl o p h (omega arith)

    same : state_of v.role 0 (Got f ∷ past) ≡ state_of v.role 0 past
    same = zero ∙ sym (h.channels_are 0 (omega arith)).state_is

    says : (say : Message → Option Bool) → is_opened (channel_at v 0).state ≡ true → got_says say (Got f) ≡ None
    says say t = ap (λ (m : Option Message). if_message say m) (p.silent t)

    not_opened : (e : ℕ) → e < 62 → (c : Bool) → (e == 0) ≡ c → is_opened (channel_at v 0).state ≡ false → is_opened (channel_at v e).state ≡ false
    not_opened e l true k t = subst (λ (m : ℕ). is_opened (channel_at v m).state ≡ false) (sym (eqb-true e 0 k)) t
    not_opened e l false k t = ap is_opened (h.others_shut t e l k)

    each : (e : ℕ) → e < 62 → (c : Bool) → is_opened (channel_at v 0).state ≡ c → ChannelFits v.role e (Got f ∷ past) (channel_at v e)
    each e l true t = untouched v.role e past (Got f) (channel_at v e) (h.channels_are e l) (same_told v f past e (e == 0) refl o p h l) (opens_none v.role e past f o) refl (says (msc_says e) t) refl refl
    each e l false t = shut_now v.role e (Got f ∷ past) (channel_at v e) (same_told v f past e (e == 0) refl o p h l) (not_opened e l (e == 0) refl t)

    all : (c : Bool) → is_opened (channel_at v 0).state ≡ c → is_opened (channel_at v 0).state ≡ true → last_said (got_says flow_says) (since v.role 0 (Got f ∷ past)) ≡ v.all_stopped
    all true t u = all_untouched v.role past (Got f) v.all_stopped (stop_in_past v past h) same none (says flow_says t) (ap is_opened zero ∙ u)
    all false t u = absurd (let g : false ≡ true = sym t ∙ u in cc)

    probe : (c : Bool) → is_opened (state_of v.role 0 past) ≡ c → kept (is_opened (state_of v.role 0 past)) (message_in f) (probe_of (setting_of v) past) ≡ probe_of (setting_of v) past
    probe true t =
        let up : is_opened (channel_at v 0).state ≡ true = ap is_opened (sym (h.channels_are 0 (omega arith)).state_is) ∙ t in
        ap (λ (z : Bool). kept z (message_in f) (probe_of (setting_of v) past)) t ∙ (ap (λ (m : Option Message). kept true m (probe_of (setting_of v) past)) (p.silent up) ∙ kept_silent (probe_of (setting_of v) past))
    probe false t = kept_nothing (is_opened (state_of v.role 0 past)) (message_in f) (probe_of (setting_of v) past) (probe_needs (setting_of v) past t)

-- ## A message while 0 is Opened

-- it closes nothing down
record Running (v : Station) (f : Frame) (m : Message) (past : List Act) : Type 0 where
  on : OnZero f
  fits : StationFits v past
  all : length v.channels ≡ 62
  up : (channel_at v 0).state ≡ IsOpened
  read : message_in f ≡ Some m
  stays : brings_command cld f ≡ false

-- what is said
said : (v : Station) (f : Frame) (m : Message) (past : List Act) (say : Message → Option Bool) → Running v f m past → got_says say (Got f) ≡ say m
said v f m past say w = ap (λ (o : Option Message). if_message say o) w.read

run_state : (v : Station) (f : Frame) (m : Message) (past : List Act) (e : ℕ) (b : Bool) → (e == 0) ≡ b → Running v f m past → e < 62 → state_of v.role e (Got f ∷ past) ≡ (channel_at v e).state
run_state v f m past e true k w l =
    subst (λ (n : ℕ). state_of v.role n (Got f ∷ past) ≡ (channel_at v n).state) (sym (eqb-true e 0 k))
    (zero_told v f past w.on w.fits ∙ (ap (λ (b : Bool). at_close_down b (brings_response cld f) (channel_at v 0).state) w.stays ∙ (ap (at_close_down false (brings_response cld f)) w.up ∙ sym w.up)))
run_state v f m past e false k w l =
    other_told v f past e w.on w.fits l k
    ∙ ap (λ (b : Bool). if b then IsShut else (channel_at v e).state) (ap (λ (b : Bool). is_opened (channel_at v 0).state && b) w.stays ∙ and_off (is_opened (channel_at v 0).state))

opened_in_range : (v : Station) (d : ℕ) (b : Bool) → nat_le 62 d ≡ b → length v.channels ≡ 62 → is_opened (channel_at v d).state ≡ true → d < 62
opened_in_range v d false k n h = leb-false 62 d k
opened_in_range v d true k n h =
    let past : channel_at v d ≡ shut_channel = get_or_past v.channels d shut_channel (let l : 62 ≤ d = leb-true 62 d k in omega (arith, l, n)) in
    absurd (let g : false ≡ true = ap (λ (c : Channel). is_opened c.state) (sym past) ∙ h in cc)

-- an MSC for an Opened connection
abbrev sets : Station → Message → Bool
sets v m = (m.octet == msc) && is_opened (channel_at v (msc_dlci m.value)).state

-- an MSC for another connection says nothing of e
unsaid : (m : Message) (e : ℕ) → ((m.octet == msc) && (msc_dlci m.value == e)) ≡ false → msc_says e m ≡ None
unsaid m e h = ap (λ (b : Bool). if b then Some (msc_stops m.value) else None) h

run_left : (v : Station) (f : Frame) (m : Message) (past : List Act) (e : ℕ) (b : Bool) → is_opened (channel_at v e).state ≡ b → Running v f m past → e < 62
    → (is_opened (channel_at v e).state ≡ true → ((m.octet == msc) && (msc_dlci m.value == e)) ≡ false) → ChannelFits v.role e (Got f ∷ past) (channel_at v e)
run_left v f m past e true t w l n =
    untouched v.role e past (Got f) (channel_at v e) (w.fits.channels_are e l) (run_state v f m past e (e == 0) refl w l) (opens_none v.role e past f w.on) refl
    (said v f m past (msc_says e) w ∙ unsaid m e (n t)) refl refl
run_left v f m past e false t w l n = shut_now v.role e (Got f ∷ past) (channel_at v e) (run_state v f m past e (e == 0) refl w l) t

run_each : (v : Station) (f : Frame) (m : Message) (past : List Act) (e : ℕ) (b : Bool) → sets v m ≡ b → Running v f m past → e < 62
    → ChannelFits v.role e (Got f ∷ past) (slice_index_or (if b then slice_set v.channels (msc_dlci m.value) (record (channel_at v (msc_dlci m.value)) { is_stopped = msc_stops m.value }) else v.channels) e shut_channel)
run_each v f m past e true s w l = by_place (msc_dlci m.value == e) refl
  where
    by_place : (b : Bool) → (msc_dlci m.value == e) ≡ b
        → ChannelFits v.role e (Got f ∷ past) (slice_index_or (slice_set v.channels (msc_dlci m.value) (record (channel_at v (msc_dlci m.value)) { is_stopped = msc_stops m.value })) e shut_channel)
    by_place true k =
        let d = msc_dlci m.value in
        let old : Channel = channel_at v d in
        let new : Channel = record old { is_stopped = msc_stops m.value } in
        let parts = and_parts (m.octet == msc) (is_opened (channel_at v (msc_dlci m.value)).state) s in
        let in_range : d < 62 = opened_in_range v d (nat_le 62 d) refl w.all parts.1 in
        let says : msc_says d m ≡ Some (msc_stops m.value) = ap (λ (b : Bool). if b then Some (msc_stops m.value) else None) (and_from (m.octet == msc) (d == d) parts.0 (eq-eqb d d refl)) in
        let there : ChannelFits v.role d (Got f ∷ past) new
        = goes_on v.role d past (Got f) old new (w.fits.channels_are d in_range) parts.1 (run_state v f m past d (d == 0) refl w in_range) parts.1 (opens_none v.role d past f w.on) refl
        (sym (ap (λ (o : Option Bool). unwrap_or o old.is_stopped) (said v f m past (msc_says d) w ∙ says))) (append-nil old.waiting) in
        subst (λ (n : ℕ). ChannelFits v.role n (Got f ∷ past) (slice_index_or (slice_set v.channels d new) n shut_channel)) (eqb-true d e k)
        (subst (λ (c : Channel). ChannelFits v.role d (Got f ∷ past) c) (sym (get_or-set_same v.channels d new shut_channel (subst (λ (n : ℕ). d < n) (sym w.all) in_range))) there)
    by_place false k =
        let d = msc_dlci m.value in
        let new : Channel = record (channel_at v d) { is_stopped = msc_stops m.value } in
        subst (λ (c : Channel). ChannelFits v.role e (Got f ∷ past) c) (sym (get_or-set_other v.channels d e new shut_channel (λ (g : e ≡ d). eqb-false d e k (sym g))))
        (run_left v f m past e (is_opened (channel_at v e).state) refl w l (λ t. ap (λ (b : Bool). (m.octet == msc) && b) k ∙ and_off (m.octet == msc)))
run_each v f m past e false s w l = run_left v f m past e (is_opened (channel_at v e).state) refl w l (λ t. by_place t (msc_dlci m.value == e) refl)
  where
    by_place : is_opened (channel_at v e).state ≡ true → (b : Bool) → (msc_dlci m.value == e) ≡ b → ((m.octet == msc) && b) ≡ false
    by_place t false k = and_off (m.octet == msc)
    by_place t true k =
        let here : is_opened (channel_at v (msc_dlci m.value)).state ≡ true = subst (λ (n : ℕ). is_opened (channel_at v n).state ≡ true) (sym (eqb-true (msc_dlci m.value) e k)) t in
        ap (λ (o : Bool). (m.octet == msc) && o) (sym here) ∙ s

probe_told : (m : Message) (o : Option Waiting) → kept true (Some m) o ≡ probe_answered o m
probe_told m None = refl
probe_told m (Some w) = turned_round (brings_probe_back w.data_octets (Some m) || refuses_probe (Some m)) (Some w)
  where
    turned_round : (b : Bool) (o : Option Waiting) → (if true && not b then o else None) ≡ (if b then None else o)
    turned_round true o = refl
    turned_round false o = refl

running_fits : (v : Station) (f : Frame) (m : Message) (past : List Act) → Running v f m past
    → StationFits (record v { channels = stops_set v m; all_stopped = unwrap_or (flow_says m) v.all_stopped; probe = probe_answered v.probe m }) (Got f ∷ past)
running_fits v f m past w =
    let each = λ (e : ℕ) (l : e < 62). run_each v f m past e (sets v m) refl w l in
    let zero : state_of v.role 0 (Got f ∷ past) ≡ (channel_at v 0).state = run_state v f m past 0 true refl w (omega arith) in
    let same : state_of v.role 0 (Got f ∷ past) ≡ state_of v.role 0 past = zero ∙ sym (w.fits.channels_are 0 (omega arith)).state_is in
    let none = opens_none v.role 0 past f w.on in
    let up : is_opened (channel_at v 0).state ≡ true = ap is_opened w.up in
    let still : is_opened (slice_index_or (stops_set v m) 0 shut_channel).state ≡ true = ap is_opened (sym (each 0 (omega arith)).state_is) ∙ (ap is_opened zero ∙ up) in
    record {
      live = w.fits.live;
      channels_are = each;
      others_shut = λ o e l k. absurd (let g : false ≡ true = sym o ∙ still in cc);
      stop_of_all_is = λ o.
          let on : since v.role 0 (Got f ∷ past) ≡ Got f ∷ since v.role 0 past = since_goes_on v.role 0 past (Got f) none (opened_open v.role 0 (Got f ∷ past) (channel_at v 0).state zero up) in
          ap (last_said (got_says flow_says)) on
          ∙ (ap (λ (x : Option Bool). unwrap_or x (last_said (got_says flow_says) (since v.role 0 past))) (said v f m past flow_says w)
          ∙ ap (λ (b : Bool). unwrap_or (flow_says m) b) (w.fits.stop_of_all_is up));
      probe_is = got_kept (setting_of v) (zero_stays (setting_of v) past (Got f)) (probe_of (setting_of v) past) f
          ∙ (ap (λ (z : Bool). kept z (message_in f) (probe_of (setting_of v) past)) (zero_stays_same (setting_of v) past f none same ∙ (ap is_opened (w.fits.channels_are 0 (omega arith)).state_is ∙ up))
          ∙ (ap (λ (x : Option Message). kept true x (probe_of (setting_of v) past)) w.read
          ∙ (probe_told m (probe_of (setting_of v) past) ∙ ap (λ (x : Option Waiting). probe_answered x m) w.fits.probe_is)));
      queue_is = w.fits.queue_is;
      last_is = w.fits.last_is;
    }

-- ## Each message

told_fits : (v : Station) (f : Frame) (m : Message) (past : List Act) (b : Bool) → (m.octet == cld) ≡ b → OnZero f → message_of f.info ≡ Some m → (channel_at v 0).state ≡ IsOpened → length v.channels ≡ 62 → StationFits v past
    → StationFits (if b then all_turned_in v IsShut else record v { channels = stops_set v m; all_stopped = unwrap_or (flow_says m) v.all_stopped; probe = probe_answered v.probe m }) (Got f ∷ past)
told_fits v f m past false c o e up n h =
    running_fits v f m past (record { on = o; fits = h; all = n; up = up; read = o.read ∙ e; stays = o.commands ∙ (ap (octet_is (λ x. x) cld) e ∙ c) })
told_fits v f m past true c o e up n h =
    let command : brings_command cld f ≡ true = o.commands ∙ (ap (octet_is (λ x. x) cld) e ∙ c) in
    closed_fits v f past
    (zero_told v f past o h ∙ (ap (λ (b : Bool). at_close_down b (brings_response cld f) (channel_at v 0).state) command ∙ ap (at_close_down true (brings_response cld f)) up))
    (λ x l k. other_told v f past x o h l k ∙ (ap (λ (b : Bool). if is_opened (channel_at v 0).state && b then IsShut else (channel_at v x).state) command ∙ ap (λ (s : State). if is_opened s && true then IsShut else (channel_at v x).state) up))
    h

-- in Stopping
ended_by : (f : Frame) (m : Message) → OnZero f → message_of f.info ≡ Some m → (brings_command cld f || brings_response cld f) ≡ ((m.octet == cld) || (command_of m.octet == cld))
ended_by f m o e =
    ap (λ (x : Bool). x || brings_response cld f) (o.commands ∙ ap (octet_is (λ x. x) cld) e)
    ∙ ap (λ (x : Bool). (m.octet == cld) || x) (o.responds ∙ ap (octet_is command_of cld) e)

ended_fits : (v : Station) (f : Frame) (m : Message) (n : ℕ) (past : List Act) (b : Bool) → ((m.octet == cld) || (command_of m.octet == cld)) ≡ b → OnZero f → message_of f.info ≡ Some m → (channel_at v 0).state ≡ IsStopping n → StationFits v past
    → StationFits (if b then all_turned_in v IsShut else v) (Got f ∷ past)
ended_fits v f m n past true c o e up h =
    let both = ended_by f m o e ∙ c in
    closed_fits v f past
    (zero_told v f past o h ∙ (ap (at_close_down (brings_command cld f) (brings_response cld f)) up ∙ ap (λ (b : Bool). if b then IsShut else IsStopping n) both))
    (λ x l k. other_told v f past x o h l k ∙ (ap (λ (s : State). if is_opened s && brings_command cld f then IsShut else (channel_at v x).state) up ∙ h.others_shut (ap is_opened up) x l k))
    h
ended_fits v f m n past false c o e up h =
    let both = ended_by f m o e ∙ c in
    passed v f past false (ap is_opened up) o (record {
      zero = ap (at_close_down (brings_command cld f) (brings_response cld f)) up ∙ (ap (λ (b : Bool). if b then IsShut else IsStopping n) both ∙ sym up);
      others = ap (λ (s : State). is_opened s && brings_command cld f) up;
      silent = λ u. absurd (let g : false ≡ true = sym (ap is_opened up) ∙ u in cc);
    }) h

-- in every state of 0 the station that took the message fits the past with its frame
pub message_fits : (v : Station) (f : Frame) (past : List Act) → is_on Uih 0 f ≡ true → length v.channels ≡ 62 → StationFits v past → StationFits (message_taken v (channel_at v 0).state (message_of f.info)) (Got f ∷ past)
message_fits v f past i n h = by_state (channel_at v 0).state (message_of f.info) refl refl
  where
    on : OnZero f
    on = on_zero f i

    nothing : is_opened (channel_at v 0).state ≡ false → at_close_down (brings_command cld f) (brings_response cld f) (channel_at v 0).state ≡ (channel_at v 0).state → StationFits v (Got f ∷ past)
    nothing t z = passed v f past false t on (record { zero = z; others = ap (λ (b : Bool). b && brings_command cld f) t; silent = λ u. absurd (let g : false ≡ true = sym t ∙ u in cc) }) h

    no_message : message_of f.info ≡ None → StationFits v (Got f ∷ past)
    no_message e =
        let command : brings_command cld f ≡ false = on.commands ∙ ap (octet_is (λ x. x) cld) e in
        let response : brings_response cld f ≡ false = on.responds ∙ ap (octet_is command_of cld) e in
        passed v f past (is_opened (channel_at v 0).state) refl on (record {
          zero = ap (λ (b : Bool). at_close_down b (brings_response cld f) (channel_at v 0).state) command ∙ (ap (λ (b : Bool). at_close_down false b (channel_at v 0).state) response ∙ stays_up (channel_at v 0).state);
          others = ap (λ (b : Bool). is_opened (channel_at v 0).state && b) command ∙ and_off (is_opened (channel_at v 0).state);
          silent = λ u. on.read ∙ e;
        }) h

    by_state : (z : State) (o : Option Message) → (channel_at v 0).state ≡ z → message_of f.info ≡ o → StationFits (message_taken v z o) (Got f ∷ past)
    by_state IsShut o s e = nothing (ap is_opened s) (ap (at_close_down (brings_command cld f) (brings_response cld f)) s ∙ sym s)
    by_state (IsOpening k) o s e = nothing (ap is_opened s) (ap (at_close_down (brings_command cld f) (brings_response cld f)) s ∙ sym s)
    by_state (IsClosing k) o s e = nothing (ap is_opened s) (ap (at_close_down (brings_command cld f) (brings_response cld f)) s ∙ sym s)
    by_state IsOpened None s e = no_message e
    by_state (IsStopping k) None s e = no_message e
    by_state IsOpened (Some m) s e = told_fits v f m past (m.octet == cld) refl on e s n h
    by_state (IsStopping k) (Some m) s e = ended_fits v f m k past ((m.octet == cld) || (command_of m.octet == cld)) refl on e s h
