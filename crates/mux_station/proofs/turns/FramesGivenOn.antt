-- What is given on leads from each past that the station fits to one that it fits.
use Rattle.std.specs.Prelude.{zero, suc, ◌≡◌, ℕ, ◌+◌, ◌-◌, ◌<◌, ◌≤◌, ◌==◌, ◌&&◌, not, min, Bool, true, false, List, [], ◌∷◌, ◌++◌, length, take, drop, refl, if◌then◌else◌, Option, Some, None, slice_index_or, slice_set}
use Rattle.std.specs.List.{list_any}
use Rattle.std.proofs.Common.{◌∙◌, ap, sym, subst, eqb-true, get_or-set_same, get_or-set_other, eq-eqb, arith, append-nil, append_assoc}
use Rattle.std.proofs.lemmas.Bool.{le-leb, eqb-false, and_parts, ne_eqb}
use Rattle.std.proofs.lemmas.List.{length-take, take-append-drop}
use Rattle.mux_frame.specs.Frames.{Frame}
use Rattle.mux_frame.specs.declared.frame.Kind.TheVariants.{Uih}
use Rattle.mux_station.specs.declared.role.Role.{Role}
use Rattle.mux_station.specs.Written.{written, is_data_frame}
use Rattle.mux_station.specs.Messages.{cld, brings_command, octet_is, message_of}
use Rattle.mux_station.specs.Acts.{Act, Sent, Given}
use Rattle.mux_station.specs.States.{is_opened, state_of}
use Rattle.mux_station.specs.Sending.{StationSetting, is_loss, queue, owed_frames, called_frames, StationGated, Sends, StationLawful}
use Rattle.mux_station.specs.Offering.{octets_offered, octets_sent, data_out, last_sender}
use Rattle.mux_station.specs.Stations.{Channel, Station, shut_channel, channel_at, setting_of, stopped_in}
use Rattle.mux_station.specs.Fitting.{ChannelFits, StationFits}
use Rattle.mux_station.specs.Giving.{is_ready, first_ready, ready_from, else_first, next_turn, data_frame, data_given, data_sent, station_after, after_given}
use Rattle.mux_station.proofs.states.StationPasts.{open_fits, stopped_fits}
use Rattle.mux_station.proofs.states.StatesAfterActs.{untouched, goes_on}
use Rattle.mux_station.proofs.user_calls.CallFrames.{opens_sent, state_sent_uih, state_given, fits_given, all_sent, all_given, probe_sent, probe_given}
use Rattle.mux_station.proofs.user_calls.OpenAndClose.{stop_in_past}

-- ## A control frame

control_fits : (v : Station) (f : Frame) (fs : List Frame) (past : List Act) → v.queue ≡ f ∷ fs → StationFits v past → StationFits (record v { queue = fs }) (Given ∷ past)
control_fits v f fs past q h = record {
  live = h.live;
  channels_are = λ d l. fits_given v.role d past (channel_at v d) (h.channels_are d l);
  others_shut = h.others_shut;
  stop_of_all_is = λ t. all_given v.role past v.all_stopped (stop_in_past v past h) (ap is_opened (state_given v.role 0 past ∙ (h.channels_are 0 (omega arith)).state_is) ∙ t);
  probe_is = probe_given (setting_of v) past ∙ h.probe_is;
  queue_is = ap (λ (v : List Frame). drop 1 v) (h.queue_is ∙ q);
  last_is = h.last_is;
}

-- ## Data

-- what is ready is Opened, not stopped, and has octets; and 0 never is
pub record Ready (v : Station) (d : ℕ) : Type 0 where
  pub opened : is_opened (channel_at v d).state ≡ true
  pub goes : stopped_in v d ≡ false
  pub some : (length (channel_at v d).waiting == 0) ≡ false
  pub in_range : d < 62
  pub no_zero : (d == 0) ≡ false

not_true : (b : Bool) → not b ≡ true → b ≡ false
not_true false h = refl
not_true true h = cc

ready_parts : (v : Station) (d : ℕ) → is_ready v d ≡ true → d < 62 → (d == 0) ≡ false → Ready v d
ready_parts v d h l z =
    let one = and_parts (is_opened (channel_at v d).state) (not (stopped_in v d) && not (length (channel_at v d).waiting == 0)) h in
    let two = and_parts (not (stopped_in v d)) (not (length (channel_at v d).waiting == 0)) one.1 in
    record { opened = one.0; goes = not_true (stopped_in v d) two.0; some = not_true (length (channel_at v d).waiting == 0) two.1; in_range = l; no_zero = z }

some_same : (d e : ℕ) → Some d ≡ Some e → d ≡ e
some_same d e h = cc

first_is_ready : (v : Station) (d count e : ℕ) → first_ready v d count ≡ Some e → d + count ≤ 62 → 1 ≤ d → Ready v e
first_is_ready v d zero e h l n = absurd (let g : None ≡ Some e = h in cc)
first_is_ready v d (suc count) e h l n = by_test (is_ready v d) refl h (λ k. first_is_ready v (d + 1) count e k (omega (arith, l)) (omega (arith, n)))
  where
    by_test : (b : Bool) → is_ready v d ≡ b → (if b then Some d else first_ready v (d + 1) count) ≡ Some e → (first_ready v (d + 1) count ≡ Some e → Ready v e) → Ready v e
    by_test true r h f = subst (λ (m : ℕ). Ready v m) (some_same d e h) (ready_parts v d r (omega (arith, l)) (ne_eqb d 0 (λ (z : d ≡ 0). omega (arith, z, n))))
    by_test false r h f = f h

-- the connection whose turn it is is ready so
pub turn_is_ready : (v : Station) (d : ℕ) → v.last < 62 → next_turn v ≡ Some d → Ready v d
turn_is_ready v d l h = by_first (ready_from v (v.last + 1)) refl h
  where
    by_first : (o : Option ℕ) → ready_from v (v.last + 1) ≡ o → else_first o (ready_from v 1) ≡ Some d → Ready v d
    by_first (Some e) k h = first_is_ready v (v.last + 1) (62 - (v.last + 1)) d (k ∙ h) (omega (arith, l)) (omega arith)
    by_first None k h = first_is_ready v 1 61 d h (omega arith) (omega arith)

is_data : (r : Role) (d : ℕ) (octets : List ℕ) → (d == 0) ≡ false → is_data_frame (written r Uih d octets) ≡ true
is_data r d octets z = ap not z

no_close_down : (r : Role) (d : ℕ) (octets : List ℕ) → (d == 0) ≡ false → brings_command cld (written r Uih d octets) ≡ false
no_close_down r d octets z = ap (λ (b : Bool). b && octet_is (λ n. n) cld (message_of octets)) z

same_state : (v : Station) (d : ℕ) (past : List Act) (e : ℕ) → (d == 0) ≡ false → state_of v.role e (Sent (data_frame v d) ∷ past) ≡ state_of v.role e past
same_state v d past e z = state_sent_uih v.role e past (data_frame v d) refl (no_close_down v.role d (take v.n1 (channel_at v d).waiting) z) refl

sent_octets : (v : Station) (d e : ℕ) → (d == 0) ≡ false → octets_sent e (Sent (data_frame v d)) ≡ (if d == e then take v.n1 (channel_at v d).waiting else [])
sent_octets v d e z = ap (λ (b : Bool). if b && (d == e) then take v.n1 (channel_at v d).waiting else []) (is_data v.role d (take v.n1 (channel_at v d).waiting) z)

data_each : (v : Station) (d : ℕ) (past : List Act) → length v.channels ≡ 62 → Ready v d → StationFits v past → (e : ℕ) → e < 62 → (b : Bool) → (d == e) ≡ b
    → ChannelFits v.role e (Sent (data_frame v d) ∷ past) (channel_at (data_given v (Some d)) e)
data_each v d past n r h e l true same =
    let old = channel_at v d in
    let c : Channel = record old { waiting = drop v.n1 old.waiting } in
    let place : slice_index_or (slice_set v.channels d c) d shut_channel ≡ c = get_or-set_same v.channels d c shut_channel (subst (λ (m : ℕ). d < m) (sym n) r.in_range) in
    let state : state_of v.role d (Sent (data_frame v d) ∷ past) ≡ c.state = same_state v d past d r.no_zero ∙ (h.channels_are d r.in_range).state_is in
    let sent : octets_sent d (Sent (data_frame v d)) ≡ take v.n1 old.waiting = sent_octets v d d r.no_zero ∙ ap (λ (b : Bool). if b then take v.n1 old.waiting else []) (eq-eqb d d refl) in
    let rings : old.waiting ++ octets_offered d (Sent (data_frame v d)) ≡ octets_sent d (Sent (data_frame v d)) ++ drop v.n1 old.waiting
    = append-nil old.waiting ∙ (sym (take-append-drop v.n1 old.waiting) ∙ ap (λ (w : List ℕ). w ++ drop v.n1 old.waiting) (sym sent)) in
    let there : ChannelFits v.role d (Sent (data_frame v d) ∷ past) c
    = goes_on v.role d past (Sent (data_frame v d)) old c (h.channels_are d r.in_range) r.opened state r.opened (opens_sent v.role d past (data_frame v d)) refl refl rings in
    subst (λ (m : ℕ). ChannelFits v.role m (Sent (data_frame v d) ∷ past) (channel_at (data_given v (Some d)) m)) (eqb-true d e same)
    (subst (λ (w : Channel). ChannelFits v.role d (Sent (data_frame v d) ∷ past) w) (sym place) there)
data_each v d past n r h e l false same =
    let c : Channel = record (channel_at v d) { waiting = drop v.n1 (channel_at v d).waiting } in
    let place : slice_index_or (slice_set v.channels d c) e shut_channel ≡ channel_at v e = get_or-set_other v.channels d e c shut_channel (λ (g : e ≡ d). eqb-false d e same (sym g)) in
    let none : octets_sent e (Sent (data_frame v d)) ≡ [] = sent_octets v d e r.no_zero ∙ ap (λ (b : Bool). if b then take v.n1 (channel_at v d).waiting else []) same in
    subst (λ (w : Channel). ChannelFits v.role e (Sent (data_frame v d) ∷ past) w) (sym place)
    (untouched v.role e past (Sent (data_frame v d)) (channel_at v e) (h.channels_are e l) (same_state v d past e r.no_zero ∙ (h.channels_are e l).state_is) (opens_sent v.role e past (data_frame v d)) refl refl refl none)

data_fits : (v : Station) (d : ℕ) (past : List Act) → length v.channels ≡ 62 → Ready v d → StationFits v past → StationFits (data_given v (Some d)) (Sent (data_frame v d) ∷ past)
data_fits v d past n r h =
    let f = data_frame v d in
    let same : (e : ℕ) → e < 62 → (channel_at (data_given v (Some d)) e).state ≡ (channel_at v e).state
    = λ e k. sym (data_each v d past n r h e k (d == e) refl).state_is ∙ (same_state v d past e r.no_zero ∙ (h.channels_are e k).state_is) in
    let data_is : is_data_frame f ≡ true = is_data v.role d (take v.n1 (channel_at v d).waiting) r.no_zero in
    record {
      live = h.live;
      channels_are = λ e l. data_each v d past n r h e l (d == e) refl;
      others_shut = λ t e k z. same e k ∙ h.others_shut (ap is_opened (sym (same 0 (omega arith))) ∙ t) e k z;
      stop_of_all_is = λ t. all_sent v.role past f v.all_stopped (stop_in_past v past h) (same_state v d past 0 r.no_zero) (ap is_opened (data_each v d past n r h 0 (omega arith) (d == 0) refl).state_is ∙ t);
      probe_is = probe_sent (setting_of v) past f (same_state v d past 0 r.no_zero) ∙ h.probe_is;
      queue_is = ap (λ (b : Bool). queue past ++ (if b then [] else f ∷ [])) data_is ∙ (append-nil (queue past) ∙ h.queue_is);
      last_is = ap (λ (b : Bool). if b then d else last_sender past) data_is;
    }

-- a length but 0 is one at least
pub some_long : (n : ℕ) → (n == 0) ≡ false → 1 ≤ n
some_long zero h = absurd (let e : true ≡ false = h in cc)
some_long (suc n) h = omega arith

data_gated : (v : Station) (d : ℕ) (past : List Act) → 31 ≤ v.n1 → Ready v d → StationFits v past → owed_frames (setting_of v) past ≡ [] → StationGated (setting_of v) past (data_frame v d)
data_gated v d past low r h o =
    let w = (channel_at v d).waiting in
    let long : length (take v.n1 w) ≡ min v.n1 (length w) = length-take v.n1 w in
    let some : 1 ≤ length w = some_long (length w) r.some in
    let at_least : 1 ≤ length (take v.n1 w) = omega (arith, long, some, low) in
    let at_most : length (take v.n1 w) ≤ v.n1 = omega (arith, long) in
    record {
      live = ap not h.live;
      is_open = open_fits v past d h r.in_range ∙ r.opened;
      goes = ap not (sym (stopped_fits v past d h r.in_range) ∙ r.goes);
      as_written = refl;
      some = le-leb 1 (length (take v.n1 w)) at_least;
      fits = le-leb (length (take v.n1 w)) v.n1 at_most;
      behind = o;
      later = drop v.n1 w;
      is_offered = (h.channels_are d r.in_range).ring_is r.opened ∙ (ap (λ (x : List ℕ). data_out v.role d past ++ x) (sym (take-append-drop v.n1 w)) ∙ sym (append_assoc (data_out v.role d past) (take v.n1 w) (drop v.n1 w)));
    }

-- ## Both

sends_gated : (s : StationSetting) (past : List Act) (f : Frame) (b : Bool) → b ≡ true → StationGated s past f → Sends s past f b
unfolding Sends
sends_gated s past f true e g = g
sends_gated s past f false e g = absurd (let h : false ≡ true = e in cc)

data_lawful : (v : Station) (d : ℕ) (past : List Act) → 31 ≤ v.n1 → Ready v d → StationFits v past → StationLawful (setting_of v) past → owed_frames (setting_of v) past ≡ [] → StationLawful (setting_of v) (Sent (data_frame v d) ∷ past)
unfolding StationLawful
data_lawful v d past low r h l o =
    (sends_gated (setting_of v) past (data_frame v d) (is_data_frame (data_frame v d)) (is_data v.role d (take v.n1 (channel_at v d).waiting) r.no_zero) (data_gated v d past low r h o), l)

data_complete : (v : Station) (d : ℕ) (past : List Act) → Ready v d → owed_frames (setting_of v) past ≡ [] → owed_frames (setting_of v) (Sent (data_frame v d) ∷ past) ≡ []
data_complete v d past r o =
    ap (λ (b : Bool). if b then owed_frames (setting_of v) past else drop 1 (owed_frames (setting_of v) past)) (is_data v.role d (take v.n1 (channel_at v d).waiting) r.no_zero) ∙ o

given_lawful : (s : StationSetting) (past : List Act) → StationLawful s past → StationLawful s (Given ∷ past)
unfolding StationLawful
given_lawful s past l = l

abbrev no_frames : List Frame
no_frames = []

none_called : (b : Bool) → (if b then no_frames else no_frames) ≡ no_frames
none_called true = refl
none_called false = refl

given_complete : (s : StationSetting) (past : List Act) → owed_frames s past ≡ [] → owed_frames s (Given ∷ past) ≡ []
given_complete s past o = ap (λ (v : List Frame). v ++ called_frames s past Given) o ∙ none_called (list_any is_loss past)

-- what holds after nothing was given on, or data
record Given_data (v : Station) (o : Option ℕ) (past : List Act) : Type 0 where
  fits : StationFits v past → StationFits (data_given v o) (data_sent v o past)
  lawful : StationFits v past → StationLawful (setting_of v) past → owed_frames (setting_of v) past ≡ [] → StationLawful (setting_of v) (data_sent v o past)
  complete : StationFits v past → owed_frames (setting_of v) past ≡ [] → owed_frames (setting_of v) (data_sent v o past) ≡ []

given_data : (v : Station) (o : Option ℕ) (past : List Act) → next_turn v ≡ o → length v.channels ≡ 62 → 31 ≤ v.n1 → v.last < 62 → Given_data v o past
given_data v None past e all low last = record { fits = λ h. h; lawful = λ h l c. l; complete = λ h c. c }
given_data v (Some d) past e all low last =
    let r = turn_is_ready v d last e in
    record {
      fits = λ h. data_fits v d past all r h;
      lawful = λ h l c. data_lawful v d past low r h l c;
      complete = λ h c. data_complete v d past r c;
    }

-- what holds after the next was given on
pub record Given_next (v : Station) (fs : List Frame) (past : List Act) : Type 0 where
  pub fits : StationFits v past → StationFits (station_after v fs) (after_given v fs past)
  pub lawful : StationFits v past → StationLawful (setting_of v) past → owed_frames (setting_of v) past ≡ [] → StationLawful (setting_of v) (after_given v fs past)
  pub complete : StationFits v past → owed_frames (setting_of v) past ≡ [] → owed_frames (setting_of v) (after_given v fs past) ≡ []

-- the next is given on in each past that the station fits, and a lawful and complete one stays so
pub given_next : (v : Station) (fs : List Frame) (past : List Act) → v.queue ≡ fs → length v.channels ≡ 62 → 31 ≤ v.n1 → v.last < 62 → Given_next v fs past
given_next v (f ∷ fs) past e all low last = record {
  fits = λ h. control_fits v f fs past e h;
  lawful = λ h l c. given_lawful (setting_of v) past l;
  complete = λ h c. given_complete (setting_of v) past c;
}
given_next v [] past e all low last =
    let g = given_data v (next_turn v) past refl all low last in
    record { fits = g.fits; lawful = g.lawful; complete = g.complete }
