-- What a frame without data for an open connection makes of what is kept of the connections.
use Rattle.std.specs.Prelude.{zero, suc, ◌≡◌, ℕ, ◌+◌, ◌<◌, ◌==◌, ◌&&◌, ◌||◌, Bool, true, false, List, [], ◌∷◌, ◌++◌, length, take, slice_set, slice_index_or, refl, Option, None, Some, if◌then◌else◌}
use Rattle.std.specs.List.{concat}
use Rattle.std.proofs.Common.{ap, sym, ◌∙◌, subst, append-nil, eqb-true, get_or-set_same, get_or-set_other}
use Rattle.std.proofs.lemmas.Bool.{eqb-false}
use Rattle.mux_frame.specs.Frames.{Frame}
use Rattle.mux_frame.specs.declared.frame.Kind.{Kind}
use Rattle.mux_frame.specs.declared.frame.Kind.TheVariants.{Sabm, Ua, Dm, Disc, Uih}
use Rattle.mux_station.specs.declared.role.Role.{Role}
use Rattle.mux_station.specs.declared.role.Role.TheVariants.{Initiator}
use Rattle.mux_station.specs.declared.noted.Noted.{Noted}
use Rattle.mux_station.specs.declared.noted.Noted.TheVariants as noted
use Rattle.mux_station.specs.Acts as station
use Rattle.mux_station.specs.Written.{is_on, is_kind}
use Rattle.mux_station.specs.Messages.{Message, message_of, cld, command_of}
use Rattle.mux_station.specs.Opening.{since, since_after, belongs, opens, opens_now, is_open, is_asked}
use Rattle.mux_station.specs.Traces.{without_calls}
use Rattle.mux_station.specs.States.{State, IsShut, IsOpening, IsOpened, IsClosing, IsStopping}
use Rattle.mux_station.specs.Tables.{is_opening}
use Rattle.mux_station.specs.Offering.{octets_offered, joined_octets, offered}
use Rattle.mux_station.specs.Sending.{StationView, Waiting, brings_probe_back, refuses_probe, sent_after, station_view as station_seen, called_frames as station_calls}
use Rattle.mux_station.specs.Noting.{closed_on, by_initiator, noted_of_probe, noted_by_message, noted_by_table, noted_of, says_open}
use Rattle.mux_station.specs.Stations.{Station, channel_at, setting_of}
use Rattle.mux_station.specs.Fitting as station_fits
use Rattle.mux_station.proofs.law_proofs.PastsWithoutCalls.{same_asked, same_open}
use Rattle.mux_station.proofs.received.MessageFrames.{on_zero, opens_none}
use Rattle.mux_station.proofs.received.StatesAfterFrames.{opens_own, opens_elsewhere}
use Rattle.at_text.specs.Lines.{kept_run}
use Rattle.at_text.specs.Windows.{Mark, answered}
use Rattle.at_text.specs.UnderWay.{FitsUnderWay}
use Rattle.at_text.proofs.windows.AnswersUnderWay.{none_fits}
use Rattle.at_text.specs.declared.unsolicited.UrcKind.{UrcKind}
use Rattle.modem_desk.specs.declared.request.Request.{Request}
use Rattle.modem_core.specs.Lanes.{Lane, new_lane}
use Rattle.modem_history.specs.Acts.{Act, Got, wire}
use Rattle.modem_history.specs.Information.{carries, info_got, accepted, texts}
use Rattle.modem_history.specs.Placing.{marks, run_on, lines_placed}
use Rattle.modem_core.specs.Cores.{dialect_in, Core, LaneFits, Runs, lane_at}
use Rattle.modem_core.specs.Receiving.{afresh_if}
use Rattle.modem_history.proofs.calls.CallEnds.{ended, end_of, frames_in}
use Rattle.modem_history.proofs.requests.StepOfFrame.{is_read, unread_marks, got_accepted, got_marks, got_was}
use Rattle.modem_core.proofs.cores.StationPasts.{IsSeen, wire_sent}
use Rattle.modem_core.proofs.outgoing.LanesAfterFrame.{got_after, offered_after}
use Rattle.modem_core.proofs.outgoing.CoreAfterFrame.{IsSound, own}
use Rattle.modem_core.proofs.frames.StationAfterFrame.{seen_then}

-- ## What opens

closed_quiet : (d : ℕ) → says_open (closed_on d) ≡ false
closed_quiet d = by_zero (d == 0)
  where
    by_zero : (b : Bool) → says_open (if b then noted.AllClosed else noted.Closed) ≡ false
    by_zero true = refl
    by_zero false = refl

table_opens : (d : ℕ) (own : State) (k : Kind) → says_open (by_initiator d own k) ≡ (is_kind k Ua && is_opening own)
table_opens d (IsOpening n) Ua = refl
table_opens d (IsOpening n) Uih = refl
table_opens d (IsOpening n) Sabm = refl
table_opens d (IsOpening n) Dm = refl
table_opens d (IsOpening n) Disc = refl
table_opens d IsOpened Ua = refl
table_opens d IsOpened Uih = refl
table_opens d IsOpened Sabm = closed_quiet d
table_opens d IsOpened Dm = closed_quiet d
table_opens d IsOpened Disc = closed_quiet d
table_opens d (IsStopping n) Dm = closed_quiet d
table_opens d (IsStopping n) Ua = refl
table_opens d (IsStopping n) Uih = refl
table_opens d (IsStopping n) Sabm = refl
table_opens d (IsStopping n) Disc = refl
table_opens d (IsClosing n) Ua = refl
table_opens d (IsClosing n) Dm = refl
table_opens d (IsClosing n) Uih = refl
table_opens d (IsClosing n) Sabm = refl
table_opens d (IsClosing n) Disc = refl
table_opens d IsShut Ua = refl
table_opens d IsShut Dm = refl
table_opens d IsShut Uih = refl
table_opens d IsShut Sabm = refl
table_opens d IsShut Disc = refl

if_quiet : (b : Bool) (n : Noted) → says_open n ≡ false → says_open (if b then noted.AllClosed else n) ≡ false
if_quiet true n h = refl
if_quiet false n h = h

probe_quiet : (w : Option Waiting) (m : Option Message) → says_open (noted_of_probe w m) ≡ false
probe_quiet None m = refl
probe_quiet (Some w) m = by_tests (brings_probe_back w.data_octets m) (refuses_probe m)
  where
    by_tests : (x y : Bool) → says_open (if x then noted.ProbeBack else (if y then noted.ProbeRefused else noted.Nothing)) ≡ false
    by_tests true y = refl
    by_tests false true = refl
    by_tests false false = refl

message_quiet : (z : State) (w : Option Waiting) (o : Option Message) → says_open (noted_by_message z w o) ≡ false
message_quiet IsShut w o = refl
message_quiet (IsOpening k) w o = refl
message_quiet (IsClosing k) w o = refl
message_quiet IsOpened w None = refl
message_quiet (IsStopping k) w None = refl
message_quiet IsOpened w (Some m) = if_quiet (m.octet == cld) (noted_of_probe w (Some m)) (probe_quiet w (Some m))
message_quiet (IsStopping k) w (Some m) = if_quiet ((m.octet == cld) || (command_of m.octet == cld)) noted.Nothing refl

-- a frame is noted to open its connection just where it does
pub opens_noted : (v : Station) (past : List station.Act) (f : Frame) (n : Noted) → v.role ≡ Initiator → station_fits.StationFits v past → f.dlci < 62 → n ≡ noted_of v.role (station_seen (setting_of v) past) f
    → says_open n ≡ opens_now Initiator f.dlci past (station.Got f)
opens_noted v past f n r h l e =
    let x = station_seen (setting_of v) past in
    ap says_open (e ∙ ap (λ (y : Role). noted_of y x f) r) ∙ by_on (is_on Uih 0 f) refl
  where
    x : StationView
    x = station_seen (setting_of v) past

    lane : station_fits.ChannelFits Initiator f.dlci past (channel_at v f.dlci)
    lane = subst (λ (y : Role). station_fits.ChannelFits y f.dlci past (channel_at v f.dlci)) r (h.channels_are f.dlci l)

    by_on : (b : Bool) → is_on Uih 0 f ≡ b → says_open (if b then noted_by_message (x.state 0) x.probe (message_of f.info) else noted_by_table Initiator f.dlci (x.state 0) (x.state f.dlci) f.kind) ≡ opens_now Initiator f.dlci past (station.Got f)
    by_on true i = message_quiet (x.state 0) x.probe (message_of f.info) ∙ sym (opens_none Initiator f.dlci past f (on_zero f i))
    by_on false i =
        table_opens f.dlci (x.state f.dlci) f.kind
        ∙ (ap (λ (s : State). is_kind f.kind Ua && is_opening s) (h.channels_are f.dlci l).state_is ∙ sym (opens_own Initiator past f (channel_at v f.dlci) lane))

-- an act opens a connection by the station's past just where it does by the driver's
pub opens_seen : (d : ℕ) (seen : List station.Act) (past : List Act) (a : station.Act) → IsSeen seen past → opens_now Initiator d seen a ≡ opens_now Initiator d (wire past) a
opens_seen d seen past a h =
    ap (λ (z : Bool). opens Initiator z (is_asked Initiator d seen) d a) (sym (same_open Initiator 0 seen))
    ∙ (ap (λ (k : Bool). opens Initiator (is_open Initiator 0 (without_calls seen)) k d a) (sym (same_asked Initiator d seen))
    ∙ ap (λ (w : List station.Act). opens_now Initiator d w a) h)

-- ## Frames that are sent

info_of_sent : (d : ℕ) (fs : List Frame) (w : List station.Act) → info_got d (since Initiator d (sent_after fs w)) ≡ info_got d (since Initiator d w)
info_of_sent d [] w = refl
info_of_sent d (f ∷ fs) w = info_of_sent d fs (station.Sent f ∷ w) ∙ got_after (belongs Initiator d w (station.Sent f)) (station.Sent f) d (since Initiator d w) refl

-- what was offered is the same after frames that are sent
pub offered_sent : (d : ℕ) (fs : List Frame) (w : List station.Act) → offered Initiator d (sent_after fs w) ≡ offered Initiator d w
offered_sent d [] w = refl
offered_sent d (f ∷ fs) w = offered_sent d fs (station.Sent f ∷ w) ∙ offered_after (belongs Initiator d w (station.Sent f)) (station.Sent f) d (since Initiator d w) refl

-- what is kept of the unfinished line at the end is what is kept of it after the frame
pub run_end : (v : Core) (l : UrcKind → Bool) (past : List Act) (f : Frame) (d : ℕ) → run_on Initiator d (ended (own v l) past (Got f)) ≡ run_on Initiator d (Got f ∷ past)
run_end v l past f d =
    let s = own v l in
    let fs = frames_in s past (Got f) in
    ap (λ (w : List station.Act). kept_run (info_got d (since Initiator d w))) ((end_of s past (Got f) d).wire_is ∙ wire_sent fs (Got f ∷ past)) ∙ ap kept_run (info_of_sent d fs (station.Got f ∷ wire past))

-- ## The lanes

-- what follows the last opening of d once this act came, which opens d or doesn't
abbrev pub since_by : Bool → ℕ → station.Act → List station.Act → List station.Act
since_by o d a w = since_after o (belongs Initiator d w a) a (since Initiator d w)

off_when : (b c : Bool) → (b && c) ≡ false → c ≡ true → b ≡ false
off_when true c h e = absurd (let x : true ≡ false = sym e ∙ h in cc)
off_when false c h e = refl

take_none : {X : Type 0} → (n : ℕ) → (let none : List X = [] in take n none) ≡ []
take_none zero = refl
take_none (suc n) = refl

-- a connection that the frame opens
opened_lane : (v : Core) (l : UrcKind → Bool) (past : List Act) (r : Runs v past) (f : Frame) (d : ℕ) → opens_now Initiator d (wire past) (station.Got f) ≡ true
    → LaneFits (dialect_in v) d (seen_then v r.seen f) (ended (own v l) past (Got f)) new_lane
opened_lane v l past r f d o =
    let s = own v l in
    let e = end_of s past (Got f) d in
    let none : marks Initiator d (ended s past (Got f)) ≡ [] = e.marks_are ∙ ap (λ (b : Bool). if b then [] else (if carries d f && is_open Initiator d (wire past) then marks Initiator d past ++ lines_placed Initiator d past f else marks Initiator d past)) o in
    let accepts : accepted Initiator d (ended s past (Got f)) ≡ [] = e.accepted_is ∙ ap (λ (b : Bool). if b then [] else accepted Initiator d past) o in
    let fresh : offered Initiator d (seen_then v r.seen f) ≡ []
    = offered_sent d (station_calls (setting_of v.station) r.seen (station.Got f)) (station.Got f ∷ r.seen) ∙ ap (λ (b : Bool). joined_octets (octets_offered d) (since_by b d (station.Got f) r.seen)) (opens_seen d r.seen past (station.Got f) r.same ∙ o) in
    let given = answered (dialect_in v) (marks Initiator d (ended s past (Got f))) + 1 in
    record {
      kept_is = run_end v l past f d ∙ ap (λ (b : Bool). kept_run (info_got d (since_by b d (station.Got f) (wire past)))) o;
      under_way_fits = subst (λ (ms : List Mark). FitsUnderWay (dialect_in v) None ms) (sym none) (none_fits (dialect_in v) None refl);
      offered_is = fresh ∙ sym (ap (λ (qs : List Request). concat (texts (take given qs))) accepts ∙ ap (λ (qs : List Request). concat (texts qs)) (take_none given));
    }

-- any other that is open, and on which the frame brings no data
pub plain_lane : (v : Core) (l : UrcKind → Bool) (past : List Act) (r : Runs v past) (f : Frame) (d : ℕ) (lane : Lane) → (carries d f && is_open Initiator d (wire past)) ≡ false → opens_now Initiator d (wire past) (station.Got f) ≡ false
    → is_open Initiator d (wire past) ≡ true → LaneFits (dialect_in v) d r.seen past lane → LaneFits (dialect_in v) d (seen_then v r.seen f) (ended (own v l) past (Got f)) lane
plain_lane v l past r f d lane unread o was k =
    let s = own v l in
    let e = end_of s past (Got f) d in
    let none : carries d f ≡ false = off_when (carries d f) (is_open Initiator d (wire past)) unread was in
    let placed : marks Initiator d (ended s past (Got f)) ≡ marks Initiator d past = e.marks_are ∙ got_marks s d past f false o unread in
    let accepts : accepted Initiator d (ended s past (Got f)) ≡ accepted Initiator d past = e.accepted_is ∙ got_accepted s d past f o in
    let run : run_on Initiator d (Got f ∷ past) ≡ run_on Initiator d past
    = ap (λ (b : Bool). kept_run (info_got d (since_by b d (station.Got f) (wire past)))) o
    ∙ ap kept_run (got_after (belongs Initiator d (wire past) (station.Got f)) (station.Got f) d (since Initiator d (wire past))
    (ap (λ (b : Bool). info_got d (since Initiator d (wire past)) ++ (if b then f.info else [])) none ∙ append-nil (info_got d (since Initiator d (wire past))))) in
    let same : offered Initiator d (seen_then v r.seen f) ≡ offered Initiator d r.seen
    = offered_sent d (station_calls (setting_of v.station) r.seen (station.Got f)) (station.Got f ∷ r.seen)
    ∙ (ap (λ (b : Bool). joined_octets (octets_offered d) (since_by b d (station.Got f) r.seen)) (opens_seen d r.seen past (station.Got f) r.same ∙ o)
    ∙ offered_after (belongs Initiator d r.seen (station.Got f)) (station.Got f) d (since Initiator d r.seen) refl) in
    record {
      kept_is = run_end v l past f d ∙ (run ∙ k.kept_is);
      under_way_fits = subst (λ (ms : List Mark). FitsUnderWay (dialect_in v) lane.under_way ms) (sym placed) k.under_way_fits;
      offered_is =
          same
          ∙ (k.offered_is ∙ (ap (λ (ms : List Mark). concat (texts (take (answered (dialect_in v) ms + 1) (accepted Initiator d past)))) (sym placed)
          ∙ ap (λ (qs : List Request). concat (texts (take (answered (dialect_in v) (marks Initiator d (ended s past (Got f))) + 1) qs))) (sym accepts)));
    }

other_lane : (v : Core) (l : UrcKind → Bool) (past : List Act) (r : Runs v past) (f : Frame) (d : ℕ) (lane : Lane) → is_read (own v l) past f ≡ false → opens_now Initiator d (wire past) (station.Got f) ≡ false
    → is_open Initiator d (wire past) ≡ true → LaneFits (dialect_in v) d r.seen past lane → LaneFits (dialect_in v) d (seen_then v r.seen f) (ended (own v l) past (Got f)) lane
other_lane v l past r f d lane n o was k =
    plain_lane v l past r f d lane (unread_marks (own v l) d past f n (carries d f) (is_open Initiator d (wire past)) refl refl) o was k

-- the lanes once the one that opens is afresh
pub afresh_here : (opens : Bool) (d : ℕ) (lanes : List Lane) → opens ≡ true → d < length lanes → slice_index_or (afresh_if opens d lanes) d new_lane ≡ new_lane
afresh_here true d lanes e l = get_or-set_same lanes d new_lane new_lane l
afresh_here false d lanes e l = cc

-- any other lane stays, as does that one where nothing opens
pub afresh_same : (opens : Bool) (d e : ℕ) (lanes : List Lane) → ((d == e) ≡ true → opens ≡ false) → slice_index_or (afresh_if opens d lanes) e new_lane ≡ slice_index_or lanes e new_lane
afresh_same false d e lanes h = refl
afresh_same true d e lanes h = by_same (d == e) refl
  where
    by_same : (b : Bool) → (d == e) ≡ b → slice_index_or (slice_set lanes d new_lane) e new_lane ≡ slice_index_or lanes e new_lane
    by_same true g = absurd (let x : true ≡ false = h g in cc)
    by_same false g = get_or-set_other lanes d e new_lane new_lane (λ (k : e ≡ d). eqb-false d e g (sym k))

-- each connection that is open after the frame has the lane that it should have: a new one if it just opened
pub other_lanes : (v : Core) (l : UrcKind → Bool) (past : List Act) (r : Runs v past) (f : Frame) (opens : Bool) → IsSound v → f.dlci < 62 → is_read (own v l) past f ≡ false
    → opens ≡ opens_now Initiator f.dlci r.seen (station.Got f) → (d : ℕ) → d < 62 → (d == 0) ≡ false → is_open Initiator d (wire (ended (own v l) past (Got f))) ≡ true
    → LaneFits (dialect_in v) d (seen_then v r.seen f) (ended (own v l) past (Got f)) (slice_index_or (afresh_if opens f.dlci v.lanes) d new_lane)
other_lanes v l past r f opens i k n e d m z o = by_open (opens_now Initiator d (wire past) (station.Got f)) refl
  where
    noted_is : opens ≡ opens_now Initiator f.dlci (wire past) (station.Got f)
    noted_is = e ∙ opens_seen f.dlci r.seen past (station.Got f) r.same

    by_open : (b : Bool) → opens_now Initiator d (wire past) (station.Got f) ≡ b
        → LaneFits (dialect_in v) d (seen_then v r.seen f) (ended (own v l) past (Got f)) (slice_index_or (afresh_if opens f.dlci v.lanes) d new_lane)
    by_open true g = by_same (f.dlci == d) refl
      where
        by_same : (b : Bool) → (f.dlci == d) ≡ b → LaneFits (dialect_in v) d (seen_then v r.seen f) (ended (own v l) past (Got f)) (slice_index_or (afresh_if opens f.dlci v.lanes) d new_lane)
        by_same false h = absurd (let x : true ≡ false = sym g ∙ opens_elsewhere Initiator d (wire past) f h in cc)
        by_same true h =
            let same : f.dlci ≡ d = eqb-true f.dlci d h in
            let here : slice_index_or (afresh_if opens f.dlci v.lanes) f.dlci new_lane ≡ new_lane
            = afresh_here opens f.dlci v.lanes (noted_is ∙ subst (λ (x : ℕ). opens_now Initiator x (wire past) (station.Got f) ≡ true) (sym same) g) (subst (λ (x : ℕ). f.dlci < x) (sym i.all) k) in
            let there : slice_index_or (afresh_if opens f.dlci v.lanes) d new_lane ≡ new_lane = subst (λ (x : ℕ). slice_index_or (afresh_if opens f.dlci v.lanes) x new_lane ≡ new_lane) same here in
            subst (λ (x : Lane). LaneFits (dialect_in v) d (seen_then v r.seen f) (ended (own v l) past (Got f)) x) (sym there) (opened_lane v l past r f d g)
    by_open false g =
        let was = got_was (own v l) d past f g o in
        let there : slice_index_or (afresh_if opens f.dlci v.lanes) d new_lane ≡ lane_at v d
        = afresh_same opens f.dlci d v.lanes (λ h. noted_is ∙ subst (λ (x : ℕ). opens_now Initiator x (wire past) (station.Got f) ≡ false) (sym (eqb-true f.dlci d h)) g) in
        subst (λ (x : Lane). LaneFits (dialect_in v) d (seen_then v r.seen f) (ended (own v l) past (Got f)) x) (sym there) (other_lane v l past r f d (lane_at v d) n g was (r.lanes_fit d m z was))
